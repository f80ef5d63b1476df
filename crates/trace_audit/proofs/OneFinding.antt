-- At most one list of findings is found of the lines of a log
use Rattle.std.proofs.Common.{◌≡◌, List, [], ◌∷◌, ◌++◌, length, refl, sym, ap, ◌∙◌, subst, arith}
use Rattle.std.proofs.lemmas.List.{same_from_push, length_push}
use Rattle.text_lines.specs.Lines.{TextLine}
use Rattle.can_logs.specs.declared.map_lines.MapLine.{MapLine}
use Rattle.can_logs.specs.Findings.{Finding, counter_of_place, AuditsLine}
use Rattle.trace_audit.specs.Auditing.{AuditsEach, none, more}
use Rattle.can_logs.proofs.CallerLemmas.{HaveWindows, same_finding}

none_pushed : (lines : List TextLine) (l : TextLine) → [] ≡ lines ++ l ∷ [] → ⊥
none_pushed lines l same =
    let as_many : 0 ≡ length (lines ++ l ∷ []) = ap (λ (ls : List TextLine). length ls) same in
    omega (arith, as_many, length_push lines l)

same_each : (mapping : List MapLine) (one two : List TextLine) (findings others : List Finding) → HaveWindows mapping
    → AuditsEach mapping one findings → AuditsEach mapping two others → one ≡ two → findings ≡ others
same_each mapping one two findings others windows none none same = refl
same_each mapping one two findings others windows none (more lines so_far l f each finds) same = absurd (none_pushed lines l same)
same_each mapping one two findings others windows (more lines so_far l f each finds) none same = absurd (none_pushed lines l (sym same))
same_each mapping one two findings others windows (more lines so_far l f each finds) (more lines2 so_far2 l2 f2 each2 finds2) same =
    let parts = same_from_push lines lines2 l l2 same in
    let front : so_far ≡ so_far2 = same_each mapping lines lines2 so_far so_far2 windows each each2 parts.0 in
    let here : AuditsLine mapping (counter_of_place mapping so_far) l f2 =
    subst (λ (fs : List Finding). AuditsLine mapping (counter_of_place mapping fs) l f2) (sym front)
    (subst (λ (x : TextLine). AuditsLine mapping (counter_of_place mapping so_far2) x f2) (sym parts.1) finds2) in
    ap (λ (fs : List Finding). fs ++ f ∷ []) front
    ∙ ap (λ (x : Finding). so_far2 ++ x ∷ []) (same_finding mapping (counter_of_place mapping so_far) l f f2 windows finds here)

pub same_findings : (mapping : List MapLine) (lines : List TextLine) (findings others : List Finding) → HaveWindows mapping
    → AuditsEach mapping lines findings → AuditsEach mapping lines others → findings ≡ others
same_findings mapping lines findings others windows one two = same_each mapping lines lines findings others windows one two refl
