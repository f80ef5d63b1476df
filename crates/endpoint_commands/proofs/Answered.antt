-- What is done of the words of a line, by what they ask
use Rattle.std.proofs.Common.{◌≡◌, ℕ, Bool, true, false, List, ◌∷◌, ◌++◌, length, sym, ◌∙◌, subst, arith, append-nil, inl, inr}
use Rattle.std.specs.Prelude.{None, Some, nat_lt}
use Rattle.std.specs.Fmt.{decimal}
use Rattle.std.proofs.lemmas.Bool.Decides.{nat_tests}
use Rattle.memory_update.specs.declared.messages.Request.{Request}
use Rattle.bus_machine.specs.declared.events.Event.TheVariants as event
use Rattle.bus_machine.specs.declared.lines.Line.{Line}
use Rattle.bus_machine.specs.declared.lines.Line.TheVariants.{Refused}
use Rattle.bus_machine.specs.declared.lines.Refusal.TheVariants.{BadLength}
use Rattle.bus_script.specs.LineTexts.{told_words}
use Rattle.secoc_node.specs.State.{NodeState}
use Rattle.endpoint_commands.specs.declared.rules.FrameRule.{FrameRule}
use Rattle.endpoint_commands.specs.declared.asking.Asked.{Asked}
use Rattle.endpoint_commands.specs.declared.asking.Asked.TheVariants.{Nothing, Other, Frame, Load}
use Rattle.endpoint_commands.specs.declared.counting.EndpointCounts.{EndpointCounts}
use Rattle.endpoint_commands.specs.declared.counting.LineKind.TheVariants as kind
use Rattle.endpoint_commands.specs.Alone.{TurnsAlone}
use Rattle.endpoint_commands.specs.Rules.{taken_size}
use Rattle.endpoint_commands.specs.Asking.{rule_at, frame_event, event_asked}
use Rattle.endpoint_commands.specs.Lines.{frame_answer, comment_text, answer_text}
use Rattle.endpoint_commands.specs.Counting.{kind_told, counts_with}
use Rattle.endpoint_commands.specs.Running.{tells_failed_disk}
use Rattle.endpoint_commands.specs.States.{AnswersWords, ToldOfFrame}

module _ (rules : List FrameRule) (number : ℕ) (words : List (List ℕ)) (before after : NodeState) (old new : List ℕ) (counts counted : EndpointCounts) (failed : Bool) where
  abbrev Answers : Asked → Type 0
  Answers asked = AnswersWords rules number words asked before after old new counts counted failed

  nothing : after ≡ before → new ≡ old → counted ≡ counts → failed ≡ false → Answers Nothing
  unfolding event_asked answer_text
  nothing same text calm is = record { told = None; does = same; text_is = text ∙ sym (append-nil old); counts_are = calm; failed_is = is }

  pub asks_nothing : (asked : Asked) → asked ≡ Nothing → after ≡ before → new ≡ old → counted ≡ counts → failed ≡ false → Answers asked
  asks_nothing asked asks same text calm is = subst Answers (sym asks) (nothing same text calm is)

  other : after ≡ before → new ≡ old → counted ≡ counts_with (Some kind.Other) counts → failed ≡ false → Answers Other
  unfolding event_asked answer_text
  other same text one is = record { told = None; does = same; text_is = text ∙ sym (append-nil old); counts_are = one; failed_is = is }

  pub asks_other : (asked : Asked) → asked ≡ Other → after ≡ before → new ≡ old → counted ≡ counts_with (Some kind.Other) counts → failed ≡ false → Answers asked
  asks_other asked asks same text one is = subst Answers (sym asks) (other same text one is)

  load : (request : Request) (told : Line) → TurnsAlone before (event.Load 0 request) told after → new ≡ old ++ comment_text (decimal number ∷ told_words told) → counted ≡ counts
      → failed ≡ tells_failed_disk (Some told) → Answers (Load request)
  unfolding event_asked answer_text
  load request told turn text calm is = record { told = Some told; does = turn; text_is = text; counts_are = calm; failed_is = is }

  pub asks_load : (asked : Asked) (request : Request) (told : Line) → asked ≡ Load request → TurnsAlone before (event.Load 0 request) told after
      → new ≡ old ++ comment_text (decimal number ∷ told_words told) → counted ≡ counts → failed ≡ tells_failed_disk (Some told) → Answers asked
  asks_load asked request told asks turn text calm is = subst Answers (sym asks) (load request told turn text calm is)

  -- a frame: its bytes are too few, or the node took its turn
  few_bytes : (place : ℕ) (bytes : List ℕ) → nat_lt (length bytes) (taken_size (rule_at rules place)) ≡ true → after ≡ before
      → new ≡ old ++ frame_answer (rule_at rules place) number words (Refused BadLength) → counted ≡ counts_with (Some (kind_told (Refused BadLength))) counts → failed ≡ false
      → Answers (Frame place bytes)
  unfolding event_asked answer_text
  few_bytes place bytes few same text one is = record { told = None; does = rw few same; text_is = text; counts_are = one; failed_is = is }

  enough_bytes : (place : ℕ) (bytes : List ℕ) (told : Line) → nat_lt (length bytes) (taken_size (rule_at rules place)) ≡ false → TurnsAlone before (frame_event (rule_at rules place) bytes) told after
      → new ≡ old ++ frame_answer (rule_at rules place) number words told → counted ≡ counts_with (Some (kind_told told)) counts → failed ≡ tells_failed_disk (Some told)
      → Answers (Frame place bytes)
  unfolding event_asked answer_text
  enough_bytes place bytes told enough turn text one is = record { told = Some told; does = rw enough turn; text_is = text; counts_are = one; failed_is = is }

  frame : (place : ℕ) (bytes : List ℕ) (told : Line) → ToldOfFrame (rule_at rules place) bytes before told after
      → new ≡ old ++ frame_answer (rule_at rules place) number words told → counted ≡ counts_with (Some (kind_told told)) counts → failed ≡ tells_failed_disk (Some told)
      → Answers (Frame place bytes)
  frame place bytes told (inl (few, bad, same)) text one is =
      few_bytes place bytes (let less : nat_lt (length bytes) (taken_size (rule_at rules place)) ≡ true = grind (arith, nat_tests, few) in less) same
      (subst (λ (l : Line). new ≡ old ++ frame_answer (rule_at rules place) number words l) bad text)
      (subst (λ (l : Line). counted ≡ counts_with (Some (kind_told l)) counts) bad one)
      (subst (λ (l : Line). failed ≡ tells_failed_disk (Some l)) bad is)
  frame place bytes told (inr (enough, turn)) text one is =
      enough_bytes place bytes told (let more : nat_lt (length bytes) (taken_size (rule_at rules place)) ≡ false = grind (arith, nat_tests, enough) in more) turn text one is

  pub asks_frame : (asked : Asked) (place : ℕ) (bytes : List ℕ) (told : Line) → asked ≡ Frame place bytes → ToldOfFrame (rule_at rules place) bytes before told after
      → new ≡ old ++ frame_answer (rule_at rules place) number words told → counted ≡ counts_with (Some (kind_told told)) counts → failed ≡ tells_failed_disk (Some told)
      → Answers asked
  asks_frame asked place bytes told asks turn text one is = subst Answers (sym asks) (frame place bytes told turn text one is)
