-- What is printed at the end of a log, and the status, of all that was found
use Rattle.std.specs.Prelude.{ℕ, List, slice_index}
use Rattle.can_logs.specs.Findings.{counter_of_place}
use Rattle.watch_commands.specs.declared.counts.LineCounts.{LineCounts}
use Rattle.watch_commands.specs.WatchedMaps.{WatchedMap}
use Rattle.watch_commands.specs.Watching.{Found, findings_of}
use Rattle.watch_commands.specs.WatchTotals.{is_accepted_at, is_failed_at, counted_of, counts_of, totals_text_of, status_of}
use Rattle.watch_commands.specs.Times.{silence_of}

-- the numbers of the line at a place
abbrev pub totals_of : WatchedMap → List Found → ℕ → LineCounts
totals_of mapping found place = record {
  number = slice_index mapping.numbers place;
  accepted = counted_of (is_accepted_at place) (findings_of found);
  failed = counted_of (is_failed_at place) (findings_of found);
  last = counter_of_place mapping.lines (findings_of found) place;
  silence = silence_of place found;
}

abbrev pub totals_text : WatchedMap → List Found → List ℕ
totals_text mapping found = totals_text_of mapping (totals_of mapping found) (counts_of (findings_of found))

abbrev pub watch_status : WatchedMap → List Found → ℕ
watch_status mapping found = status_of mapping (totals_of mapping found) (counts_of (findings_of found))
