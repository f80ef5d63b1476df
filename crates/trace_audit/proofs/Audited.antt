-- An audit goes on by one more line.
use Rattle.std.proofs.Common.{◌≡◌, ℕ, suc, arith, ◌+◌, true, false, List, [], ◌∷◌, ◌++◌, length, map, refl, sym, ap, ◌∙◌, subst}
use Rattle.std.specs.Prelude.{slice_index}
use Rattle.std.proofs.lemmas.List.{length-map, map-append, flat_map_more}
use Rattle.text_lines.specs.Lines.{TextLine}
use Rattle.can_logs.specs.declared.map_lines.MapLine.{MapLine}
use Rattle.can_logs.specs.declared.findings.FrameTally.{FrameTally}
use Rattle.secoc_words.specs.Counting.{next_counter, last_accepted}
use Rattle.secoc_words.proofs.CallerLemmas.{last_accepted-more}
use Rattle.can_logs.specs.Findings.{Finding, other, too_short, verdict, finding_text, is_other, is_other_tally, finding_accepts, first_counters, counter_of_place, AuditsLine}
use Rattle.trace_audit.specs.Auditing.{others_in, none, more}
use Rattle.can_logs.specs.FindingSteps.{AddsFinding}
use Rattle.trace_audit.specs.AuditedLines.{Audited}
use Rattle.can_logs.proofs.CallerLemmas.{AuditsLine-same, other_as}

-- the last finding is the last that a counter is taken from
counter_more : (mapping : List MapLine) (place : ℕ) (findings : List Finding) (finding : Finding)
    → counter_of_place mapping (findings ++ finding ∷ []) place
    ≡ next_counter place (counter_of_place mapping findings place) (finding_accepts finding)
counter_more mapping place findings finding =
    let first : ℕ = slice_index (first_counters mapping) place in
    ap (last_accepted place first) (map-append finding_accepts findings (finding ∷ []))
    ∙ last_accepted-more place first (map finding_accepts findings) (finding_accepts finding)

-- one more other line is counted
others_more : (findings : List Finding) (finding : Finding) → is_other finding ≡ true → others_in (findings ++ finding ∷ []) ≡ others_in findings + 1
others_more [] (other k) e = refl
others_more [] (too_short n p c) e = cc
others_more [] (verdict n p c o) e = cc
others_more (other k ∷ findings) finding e = omega (arith, others_more findings finding e)
others_more (too_short n p c ∷ findings) finding e = others_more findings finding e
others_more (verdict n p c o ∷ findings) finding e = others_more findings finding e

others_same : (findings : List Finding) (finding : Finding) → is_other finding ≡ false → others_in (findings ++ finding ∷ []) ≡ others_in findings
others_same [] (other k) e = cc
others_same [] (too_short n p c) e = refl
others_same [] (verdict n p c o) e = refl
others_same (other k ∷ findings) finding e = ap suc (others_same findings finding e)
others_same (too_short n p c ∷ findings) finding e = others_same findings finding e
others_same (verdict n p c o ∷ findings) finding e = others_same findings finding e

-- before the first line
pub Audited-none : (mapping : List MapLine) (counters text : List ℕ) → counters ≡ first_counters mapping → text ≡ [] → Audited mapping [] counters text 0
Audited-none mapping counters text counters_are text_is = record {
  findings = [];
  finds = none;
  text_is = text_is;
  others_is = refl;
  as_many = ap length counters_are ∙ length-map mapping (λ (l : MapLine). l.counter);
  counters_are = λ place inside. ap (λ cs. slice_index cs place) counters_are;
}

-- one more line is audited
module _ (mapping : List MapLine) (lines : List TextLine) (old new : List ℕ) (l : TextLine) (before after : List ℕ) (others : ℕ) where
  step : (done : Audited mapping lines old before others) (counts : FrameTally) (notes : AddsFinding mapping old new l before after counts) (count : ℕ)
      → count ≡ others_in (done.findings ++ notes.0 ∷ []) → Audited mapping (lines ++ l ∷ []) new after count
  step done counts (finding, finds, after_is, counts_as, same_length, counters) count count_is =
      let here : AuditsLine mapping (counter_of_place mapping done.findings) l finding = AuditsLine-same mapping (slice_index old) (counter_of_place mapping done.findings) l finding done.counters_are finds in
      record {
        findings = done.findings ++ finding ∷ [];
        finds = more lines done.findings l finding done.finds here;
        text_is = after_is ∙ ap (λ t. t ++ finding_text finding) done.text_is ∙ flat_map_more finding_text [] done.findings finding;
        others_is = count_is;
        as_many = same_length ∙ done.as_many;
        counters_are = λ place inside.
            counters place (omega (arith, inside, done.as_many))
            ∙ ap (λ c. next_counter place c (finding_accepts finding)) (done.counters_are place inside)
            ∙ sym (counter_more mapping place done.findings finding);
      }

  -- the map has a line for it
  pub Audited-mapped : (counts : FrameTally) (count : ℕ) → is_other_tally counts ≡ false → count ≡ others → Audited mapping lines old before others
      → AddsFinding mapping old new l before after counts → Audited mapping (lines ++ l ∷ []) new after count
  Audited-mapped counts count is count_is done notes = step done counts notes count
      (count_is ∙ done.others_is ∙ sym (others_same done.findings notes.0 (other_as notes.0 ∙ ap is_other_tally (sym notes.3) ∙ is)))

  -- it is one of the others
  pub Audited-other : (counts : FrameTally) (count : ℕ) → is_other_tally counts ≡ true → count ≡ others + 1 → Audited mapping lines old before others
      → AddsFinding mapping old new l before after counts → Audited mapping (lines ++ l ∷ []) new after count
  Audited-other counts count is count_is done notes = step done counts notes count
      (count_is ∙ ap (λ n. n + 1) done.others_is ∙ sym (others_more done.findings notes.0 (other_as notes.0 ∙ ap is_other_tally (sym notes.3) ∙ is)))

-- the same by other names of the lines and the counters
pub Audited-same : (mapping : List MapLine) (lines lines' : List TextLine) (counters counters' text : List ℕ) (others : ℕ) → lines' ≡ lines → counters' ≡ counters
    → Audited mapping lines counters text others → Audited mapping lines' counters' text others
Audited-same mapping lines lines' counters counters' text others lines_are counters_are done =
    subst (λ (ls : List TextLine). Audited mapping ls counters' text others) (sym lines_are)
    (subst (λ (cs : List ℕ). Audited mapping lines cs text others) (sym counters_are) done)
