-- What is done of a line, by what it asks
use Rattle.std.proofs.Common.{◌≡◌, ℕ, ◌<◌, ◌≤◌, Bool, true, false, List, [], ◌∷◌, ◌++◌, length, drop, map, refl, sym, ap, ◌∙◌, subst, arith}
use Rattle.std.specs.Prelude.{nat_lt}
use Rattle.std.proofs.lemmas.List.{length-take, length-drop}
use Rattle.text_lines.specs.declared.span.Span.{Span}
use Rattle.text_lines.specs.Readings.{nth_word}
use Rattle.text_lines.specs.Spans.{word_at}
use Rattle.std.proofs.lemmas.Bool.Decides.{nat_tests}
use Rattle.text_lines.specs.Lines.{words_of, is_skipped}
use Rattle.secoc_node.specs.State.{NodeState}
use Rattle.line_stream.specs.Pieces.{line_limit}
use Rattle.endpoint_commands.specs.declared.rules.FrameRule.{FrameRule}
use Rattle.endpoint_commands.specs.declared.asking.Asked.{Asked}
use Rattle.endpoint_commands.specs.declared.asking.Asked.TheVariants.{Nothing, Other}
use Rattle.endpoint_commands.specs.declared.counting.EndpointCounts.{EndpointCounts}
use Rattle.endpoint_commands.specs.Asking.{asked_of_line, asked_of_words, event_asked}
use Rattle.endpoint_commands.specs.Lines.{answer_text}
use Rattle.endpoint_commands.specs.Counting.{kind_asked, counts_with}
use Rattle.endpoint_commands.specs.Running.{DoesEvent}
use Rattle.endpoint_commands.specs.States.{EndpointState, AnswersWords, AnswersNext}

pub asked_long : (rules : List FrameRule) (bytes : List ℕ) → line_limit < length bytes → asked_of_line rules bytes ≡ Other
unfolding asked_of_line
asked_long rules bytes long = let is : nat_lt line_limit (length bytes) ≡ true = grind (arith, nat_tests, long) in rw is refl

pub asked_skipped : (rules : List FrameRule) (bytes : List ℕ) → length bytes ≤ line_limit → is_skipped (words_of bytes) ≡ true → asked_of_line rules bytes ≡ Nothing
unfolding asked_of_line
asked_skipped rules bytes few skipped = let is : nat_lt line_limit (length bytes) ≡ false = grind (arith, nat_tests, few) in rw is (rw skipped refl)

pub asked_words : (rules : List FrameRule) (bytes : List ℕ) → length bytes ≤ line_limit → is_skipped (words_of bytes) ≡ false → asked_of_line rules bytes ≡ asked_of_words rules (words_of bytes)
unfolding asked_of_line
asked_words rules bytes few kept = let is : nat_lt line_limit (length bytes) ≡ false = grind (arith, nat_tests, few) in rw is (rw kept refl)

pub kept_as : (old : EndpointState) (number : ℕ) (line : List ℕ) (asked : Asked) (node : NodeState) (text : List ℕ) (counts : EndpointCounts) (failed : Bool) → asked_of_line old.rules line ≡ asked
    → AnswersWords old.rules number (words_of line) asked old.node node old.text text old.counts counts failed
    → AnswersNext old number line (record old { node = node; counts = counts; text = text }) failed
kept_as old number line asked node text counts failed is a = record {
  told = a.told;
  takes = subst (λ (x : Asked). DoesEvent (event_asked old.rules x) old.node a.told node) (sym is) a.does;
  counts = counts;
  counts_are = a.counts_are ∙ ap (λ (x : Asked). counts_with (kind_asked x a.told) old.counts) (sym is);
  new_is = ap (λ (t : List ℕ). record old { node = node; counts = counts; text = t }) (a.text_is ∙ ap (λ (x : Asked). old.text ++ answer_text old.rules number (words_of line) x a.told) (sym is));
  failed_is = a.failed_is;
}

-- the first word of a line is no longer than the line
pub first_short : (line : List ℕ) (spans : List Span) → length (nth_word (map (word_at line) spans) 1) ≤ length line
first_short line [] = omega arith
first_short line (span ∷ spans) = omega (arith, length-take span.len (drop span.at line), length-drop span.at line)
