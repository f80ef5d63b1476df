-- What adds the text of a verdict adds the answer of the line.
use Rattle.std.proofs.Common.{◌≡◌, ℕ, List, ◌++◌, refl, inr, subst, sym, ◌∙◌}
use Rattle.secured_pdu.specs.Frame.{IsFrame}
use Rattle.secured_pdu.specs.Verdict.{Outcome, Verdict}
use Rattle.secoc_words.specs.declared.judges.JudgeLine.{JudgeLine}
use Rattle.secoc_words.specs.Texts.{outcome_text}
use Rattle.bus_commands.specs.Texts.{TellsJudgement}
use Rattle.bus_commands.specs.Steps.{Adds}

pub judged : (l : JudgeLine) (key pdu frame : List ℕ) (outcome : Outcome) (old new : List ℕ)
    → key ≡ l.key → pdu ≡ l.pdu → IsFrame pdu → pdu ≡ frame → Verdict key l.id l.counter 256 frame outcome
    → new ≡ old ++ outcome_text outcome → Adds old new (TellsJudgement l)
judged l key pdu frame outcome old new key_is pdu_is is_frame frame_is verdict adds =
    let right : Verdict l.key l.id l.counter 256 l.pdu outcome =
    subst (λ k. Verdict k l.id l.counter 256 l.pdu outcome) key_is
    (subst (λ f. Verdict key l.id l.counter 256 f outcome) (sym frame_is ∙ pdu_is) verdict) in
    (outcome_text outcome, inr (subst IsFrame pdu_is is_frame, outcome, right, refl), adds)
