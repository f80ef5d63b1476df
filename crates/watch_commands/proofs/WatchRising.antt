-- The freshness that a line of the map accepts rises from line to line of a log of any length
use Rattle.std.proofs.Common.{ℕ, ◌+◌, List, ◌++◌, length, map, sym, ap, ◌∙◌, subst, append-nil, inl, inr}
use Rattle.std.specs.Prelude.{slice_index}
use Rattle.secoc_words.specs.Counting.{AcceptedRise}
use Rattle.secoc_words.specs.Counting as counting
use Rattle.secoc_words.proofs.CallerLemmas.{KeepsCounters-rise}
use Rattle.can_logs.specs.declared.map_lines.MapLine.{MapLine}
use Rattle.can_logs.specs.declared.frames.OtherLine.TheVariants as kind
use Rattle.can_logs.specs.Findings.{Finding, other, finding_accepts, first_counters, counter_of_place}
use Rattle.can_logs.proofs.CallerLemmas.{Keeps, keeps_one, above}
use Rattle.watch_commands.specs.Watching.{Found, findings_of, WatchesLine, WatchesEach, none, more}
use Rattle.watch_commands.proofs.Stamping.{findings_more}
use Rattle.line_stream.specs.Pieces.{in_64_bits}

-- what is found of one more line
keeps_line : (mapping : List MapLine) (findings : List Finding) (number : ℕ) (bytes : List ℕ) (found : List Finding) → Keeps mapping findings
    → WatchesLine mapping (counter_of_place mapping findings) number bytes found → Keeps mapping (findings ++ found)
keeps_line mapping findings number bytes found so_far (inl (long, is)) =
    subst (λ (fs : List Finding). Keeps mapping (findings ++ fs)) (sym is) (keeps_one mapping findings (other kind.Malformed) so_far tt)
keeps_line mapping findings number bytes found so_far (inr (inl (few, skipped, is))) =
    subst (Keeps mapping) (sym (append-nil findings) ∙ ap (λ (fs : List Finding). findings ++ fs) (sym is)) so_far
keeps_line mapping findings number bytes found so_far (inr (inr (few, kept, (f, is, finds)))) =
    subst (λ (fs : List Finding). Keeps mapping (findings ++ fs)) (sym is)
    (keeps_one mapping findings f so_far (above mapping (counter_of_place mapping findings) _ f finds))

keeps : (mapping : List MapLine) (lines : List (List ℕ)) (found : List Found) → WatchesEach mapping lines found → Keeps mapping (findings_of found)
keeps mapping lines found none = counting.none
keeps mapping lines found (more before so_far bytes findings each finds) =
    subst (Keeps mapping) (sym (findings_more so_far bytes findings))
    (keeps_line mapping (findings_of so_far) (in_64_bits (length before + 1)) bytes findings (keeps mapping before so_far each) finds)

-- of two frames that the same line of the map accepts, the later has the greater freshness
pub all_rise : (mapping : List MapLine) (lines : List (List ℕ)) (found : List Found) → WatchesEach mapping lines found
    → AcceptedRise (map finding_accepts (findings_of found))
all_rise mapping lines found each =
    KeepsCounters-rise (slice_index (first_counters mapping)) (map finding_accepts (findings_of found)) (keeps mapping lines found each)
