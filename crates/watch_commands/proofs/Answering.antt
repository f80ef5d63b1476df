-- What is printed of the answer to a frame is what is printed of its finding
use Rattle.std.proofs.Common.{◌≡◌, ℕ, List, sym, subst}
use Rattle.std.specs.Prelude.{Some}
use Rattle.std.specs.List.{slice_get}
use Rattle.text_lines.specs.Lines.{TextLine}
use Rattle.can_logs.specs.declared.map_lines.MapLine.{MapLine}
use Rattle.can_logs.specs.declared.findings.FrameTally.{FrameTally}
use Rattle.can_logs.specs.Findings.{Finding, other, too_short, verdict, finding_text, tally_of, AuditsLine}
use Rattle.watch_commands.specs.Answers.{IsAnswerIn}

-- what was found of a line, and its text
pub answer_in : (mapping : List MapLine) (c : ℕ → ℕ) (l : TextLine) (counts : FrameTally) (answer : List ℕ) (f : Finding) → AuditsLine mapping c l f
    → counts ≡ tally_of f → answer ≡ finding_text f → IsAnswerIn mapping l.number counts answer f
answer_in mapping c l counts answer (other kind) audits counts_is is = counts_is
answer_in mapping c l counts answer (too_short n p can) (m, mapped, number_is, place_is, can_is, short) counts_is is =
    (number_is, (m.entry, subst (λ k. slice_get mapping k ≡ Some m.entry) (sym place_is) mapped.3, can_is), counts_is, is)
answer_in mapping c l counts answer (verdict n p can outcome) (m, mapped, number_is, place_is, can_is, long, judged) counts_is is =
    (number_is, (m.entry, subst (λ k. slice_get mapping k ≡ Some m.entry) (sym place_is) mapped.3, can_is), counts_is, is)
