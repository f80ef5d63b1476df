-- A finding that accepts does so above the counter of its place.
use Rattle.std.proofs.Common.{ℕ, ◌<◌, List, [], ◌∷◌, ◌++◌, map, sym, subst}
use Rattle.std.specs.Prelude.{slice_index, IfSome}
use Rattle.std.proofs.lemmas.List.{map-append}
use Rattle.secured_pdu.specs.Verdict.{Accepted, FreshnessFailure, VerificationFailure}
use Rattle.text_lines.specs.Lines.{TextLine}
use Rattle.secoc_words.specs.Counting.{KeepsCounters}
use Rattle.secoc_words.specs.Counting as counting
use Rattle.can_logs.specs.declared.map_lines.MapLine.{MapLine}
use Rattle.can_logs.specs.Findings.{Finding, other, too_short, verdict, finding_accepts, first_counters, counter_of_place, AuditsLine}

-- what is accepted is above the counter of its place
pub above : (mapping : List MapLine) (c : ℕ → ℕ) (l : TextLine) (f : Finding) → AuditsLine mapping c l f
    → IfSome (finding_accepts f) (λ a. c a.receiver < a.freshness)
above mapping c l (verdict n p can (Accepted payload v)) h = h.6.0.above
above mapping c l (verdict n p can FreshnessFailure) h = tt
above mapping c l (verdict n p can VerificationFailure) h = tt
above mapping c l (other k) h = tt
above mapping c l (too_short n p can) h = tt

-- each line of the map keeps its counter
abbrev pub Keeps : List MapLine → List Finding → Type 0
Keeps mapping findings = KeepsCounters (slice_index (first_counters mapping)) (map finding_accepts findings)

-- one more finding, which accepts what is above the counter of its place
pub keeps_one : (mapping : List MapLine) (findings : List Finding) (f : Finding) → Keeps mapping findings
    → IfSome (finding_accepts f) (λ a. counter_of_place mapping findings a.receiver < a.freshness) → Keeps mapping (findings ++ f ∷ [])
keeps_one mapping findings f so_far over =
    subst (KeepsCounters (slice_index (first_counters mapping))) (sym (map-append finding_accepts findings (f ∷ [])))
    (counting.more (map finding_accepts findings) (finding_accepts f) so_far over)
