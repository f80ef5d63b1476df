use Rattle.std.proofs.Common.{◌≡◌, ◌∷◌, ◌++◌, ℕ, List, false, sym, ap, ◌∙◌, refl, subst}
use Rattle.std.specs.Prelude.{Some}
use Rattle.std.specs.Fmt.{decimal}
use Rattle.std.proofs.lemmas.Result.{IfOk-at_ok}
use Rattle.std.proofs.lemmas.List.{get_or_default}
use Rattle.bus_machine.specs.declared.lines.Line.{Line}
use Rattle.bus_script.specs.LineTexts.{told_words}
use Rattle.endpoint_commands.specs.declared.rules.FrameRule.{FrameRule}
use Rattle.endpoint_commands.specs.declared.counting.LineKind.{LineKind}
use Rattle.endpoint_commands.specs.Asking.{asked_of_words, rule_at, no_rule}
use Rattle.endpoint_commands.specs.Lines.{frame_answer, comment_text}
use Rattle.endpoint_commands.specs.Counting.{counts_with}
use Rattle.endpoint_commands.specs.States.{ToldOfFrame}
use Rattle.endpoint_commands.proofs.Answered.{asks_nothing, asks_other, asks_load, asks_frame}
use Rattle.endpoint_commands.proofs.words_answered.answer_words.Goals as goal

pub returns-in-Nothing-clause-answers : goal.returns-in-Nothing-clause-answers
returns-in-Nothing-clause-answers g c =
    asks_nothing c.args.rules.now c.args.number c.args.words.now c.args.node.now c.args.node.now c.args.text.now.items c.args.text.now.items c.args.counts.now c.args.counts.now false
    (asked_of_words c.args.rules.now c.args.words.now) (sym c.asked_of_words.ensures.asked ∙ c.in-Nothing.is) refl refl refl refl

pub returns-in-Other-clause-answers : goal.returns-in-Other-clause-answers
returns-in-Other-clause-answers g c =
    asks_other c.args.rules.now c.args.number c.args.words.now c.args.node.now c.args.node.now c.args.text.now.items c.args.text.now.items c.args.counts.now c.count.new.self false
    (asked_of_words c.args.rules.now c.args.words.now) (sym c.asked_of_words.ensures.asked ∙ c.in-Other.is) refl refl c.count.ensures refl

pub returns-in-Frame-clause-answers : goal.returns-in-Frame-clause-answers
returns-in-Frame-clause-answers g c =
    let rules : List FrameRule = c.args.rules.now in
    let place : ℕ = c.in-Frame.place in
    let told : Line = c.told_of_frame-told.result in
    let old : List ℕ = c.args.text.now.items in
    let new : List ℕ = c.add_frame_answer.new.text.items in
    let rule_is : c.index-rules-place.result ≡ rule_at rules place =
    c.index-rules-place.is ∙ get_or_default rules place c.index-rules-place.result no_rule c.in-Frame.ensures.within.0 in
    let turn : ToldOfFrame (rule_at rules place) c.in-Frame.bytes c.args.node.now told c.told_of_frame-told.new.node =
    subst (λ (rule : FrameRule). ToldOfFrame rule c.in-Frame.bytes c.args.node.now told c.told_of_frame-told.new.node) rule_is
    (subst (λ (bytes : List ℕ). ToldOfFrame c.index-rules-place.result bytes c.args.node.now told c.told_of_frame-told.new.node) c.bytes.ensures.value c.told_of_frame-told.ensures) in
    let text : new ≡ old ++ frame_answer (rule_at rules place) c.args.number c.args.words.now told =
    IfOk-at_ok (λ _. new ≡ old ++ frame_answer c.index-rules-place.result c.args.number c.args.words.now told) c.unwrap.ensures c.add_frame_answer.ensures.answer
    ∙ ap (λ (rule : FrameRule). old ++ frame_answer rule c.args.number c.args.words.now told) rule_is in
    asks_frame rules c.args.number c.args.words.now c.args.node.now c.told_of_frame-told.new.node old new c.args.counts.now c.count-in-Frame.new.self c.tells_failure.result
    (asked_of_words rules c.args.words.now) place c.in-Frame.bytes told (sym c.asked_of_words.ensures.asked ∙ c.in-Frame.is) turn text
    (c.count-in-Frame.ensures ∙ ap (λ (kind : LineKind). counts_with (Some kind) c.args.counts.now) c.of_told.ensures) c.tells_failure.ensures

pub returns-in-Load-clause-answers : goal.returns-in-Load-clause-answers
returns-in-Load-clause-answers g c =
    let old : List ℕ = c.args.text.now.items in
    let new : List ℕ = c.add_load_comment.new.text.items in
    let told : Line = c.request_turn-told.result in
    let text : new ≡ old ++ comment_text (decimal c.args.number ∷ told_words told) =
    IfOk-at_ok (λ _. new ≡ old ++ comment_text (decimal c.args.number ∷ told_words told)) c.unwrap-in-Load.ensures c.add_load_comment.ensures.comment in
    asks_load c.args.rules.now c.args.number c.args.words.now c.args.node.now c.request_turn-told.new.node old new c.args.counts.now c.args.counts.now c.tells_failure-in-Load.result
    (asked_of_words c.args.rules.now c.args.words.now) c.in-Load.request told (sym c.asked_of_words.ensures.asked ∙ c.in-Load.is) c.request_turn-told.ensures text refl c.tells_failure-in-Load.ensures
