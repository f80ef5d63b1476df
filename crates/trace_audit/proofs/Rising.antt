-- The freshness that a line of the map accepts rises from line to line of the log
use Rattle.std.proofs.Common.{List, map}
use Rattle.std.specs.Prelude.{slice_index}
use Rattle.text_lines.specs.Lines.{TextLine}
use Rattle.secoc_words.specs.Counting.{AcceptedRise}
use Rattle.secoc_words.specs.Counting as counting
use Rattle.secoc_words.proofs.CallerLemmas.{KeepsCounters-rise}
use Rattle.can_logs.specs.declared.map_lines.MapLine.{MapLine}
use Rattle.can_logs.specs.Findings.{Finding, finding_accepts, first_counters, counter_of_place}
use Rattle.trace_audit.specs.Auditing.{AuditsEach, none, more}
use Rattle.can_logs.proofs.CallerLemmas.{Keeps, above, keeps_one}

keeps : (mapping : List MapLine) (lines : List TextLine) (findings : List Finding) → AuditsEach mapping lines findings → Keeps mapping findings
keeps mapping lines findings none = counting.none
keeps mapping lines findings (more before so_far l f each finds) =
    keeps_one mapping so_far f (keeps mapping before so_far each) (above mapping (counter_of_place mapping so_far) l f finds)

pub all_rise : (mapping : List MapLine) (lines : List TextLine) (findings : List Finding) → AuditsEach mapping lines findings
    → AcceptedRise (map finding_accepts findings)
all_rise mapping lines findings each =
    KeepsCounters-rise (slice_index (first_counters mapping)) (map finding_accepts findings) (keeps mapping lines findings each)
