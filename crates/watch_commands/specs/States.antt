-- The state between two lines of a log, what the steps say to one another, and what the driver of a log is told
use Rattle.std.specs.Prelude.{◌≡◌, ℕ, ◌<◌, Bool, true, is_some, if◌then◌else◌, List, [], ◌∷◌, ◌++◌, length, map, set, replicate}
use Rattle.std.specs.Prelude.{slice_index, slice_get, Option, None, Some, unwrap_or, Result, Ok, Err, IfErr}
use Rattle.std.specs.List.{list_any}
use Rattle.bus_port.specs.Fault.{counted}
use Rattle.bus_port.specs.Sink.{SinkState}
use Rattle.program_edge.specs.Told.{EndingTold}
use Rattle.can_logs.specs.declared.findings.FrameTally.{FrameTally}
use Rattle.can_logs.specs.declared.findings.FrameTally.TheVariants as tally
use Rattle.watch_commands.specs.declared.counts.WatchCounts.{WatchCounts}
use Rattle.watch_commands.specs.declared.counts.LineCounts.{LineCounts}
use Rattle.watch_commands.specs.declared.times.LogClock.{LogClock}
use Rattle.watch_commands.specs.declared.times.HeardTimes.{HeardTimes}
use Rattle.watch_commands.specs.declared.times.Silence.{Silence}
use Rattle.watch_commands.specs.Limits.{limits_in}
use Rattle.watch_commands.specs.Silences.{endless_silence}
use Rattle.watch_commands.specs.Times.{first_time, moment_after, time_found, clock_of, times_of, no_times, until, heard}
use Rattle.secoc_words.specs.Counting.{last_accepted}
use Rattle.watch_commands.specs.WatchedMaps.{WatchedMap}
use Rattle.can_logs.specs.Findings.{Finding, tally_of, finding_accepts, first_counters, counter_of_place, is_accepted_tally}
use Rattle.line_stream.specs.Pieces.{PutsPiece}
use Rattle.watch_commands.specs.Watching.{Found, stamped, findings_of, WatchesLine, WatchesEach, found_text}
use Rattle.watch_commands.specs.WatchTotals.{counted_of, counts_of, is_failed_tally, is_accepted_at, is_failed_at, is_other_of, is_unmapped_line, is_other_frame, is_malformed_line, silence_limit, totals_text_of, status_of}

-- the map; for each of its lines the counter, how many frames it accepted, and how many it didn't; the numbers of the
-- log so far, its moments, and for each line of the map when it was heard; what was found of the last lines, as it is
-- printed
pub record WatchState : Type 0 where
  pub mapping : WatchedMap
  pub counters : List ℕ
  pub accepted : List ℕ
  pub failed : List ℕ
  pub counts : WatchCounts
  pub clock : LogClock
  pub times : List HeardTimes
  pub text : List ℕ

-- nothing was looked at yet
pub record IsFreshWatch (state : WatchState) : Type 0 where
  pub counters_are : state.counters ≡ first_counters state.mapping.lines
  pub accepted_are : state.accepted ≡ replicate (length state.mapping.lines) 0
  pub failed_are : state.failed ≡ replicate (length state.mapping.lines) 0
  pub counts_are : state.counts ≡ counts_of []
  pub clock_is : state.clock ≡ clock_of []
  pub times_are : state.times ≡ replicate (length state.mapping.lines) no_times
  pub no_text : state.text ≡ []

-- for each line of the map the number of findings that pass for it
abbrev pub AreCounted : (ℕ → FrameTally → Bool) → WatchedMap → List ℕ → List Found → Type 0
AreCounted passes mapping numbers findings =
    (place : ℕ) → place < length mapping.lines
    → slice_index numbers place ≡ counted_of (passes place) (findings_of findings)

-- a line of the map has a limit of silence. Only then are times of the log looked at
abbrev pub wants_times : WatchedMap → Bool
wants_times mapping = list_any (λ entry. is_some (silence_limit (limits_in mapping.options) entry)) mapping.lines

abbrev pub time_wanted : WatchedMap → Option ℕ → Option ℕ
time_wanted mapping time = if wants_times mapping then time else None

-- the state after these lines of a log, of which these are found, apart from its text
pub record Watched (state : WatchState) (lines : List (List ℕ)) (findings : List Found) : Type 0 where
  pub finds : WatchesEach state.mapping.lines lines findings
  pub as_many : length state.counters ≡ length state.mapping.lines
  pub accepted_many : length state.accepted ≡ length state.mapping.lines
  pub failed_many : length state.failed ≡ length state.mapping.lines
  pub counters_are : (place : ℕ) → place < length state.mapping.lines
      → slice_index state.counters place ≡ counter_of_place state.mapping.lines (findings_of findings) place
  pub accepted_are : AreCounted is_accepted_at state.mapping state.accepted findings
  pub failed_are : AreCounted is_failed_at state.mapping state.failed findings
  pub counts_are : state.counts ≡ counts_of (findings_of findings)
  pub clock_is : wants_times state.mapping ≡ true → state.clock ≡ clock_of findings
  pub times_many : length state.times ≡ length state.mapping.lines
  pub times_are : wants_times state.mapping ≡ true → (place : ℕ) → place < length state.mapping.lines
      → slice_get state.times place ≡ Some (times_of place findings)

-- what found findings, of one line, count as: nothing if it was skipped
abbrev pub tally_found : List Finding → Option FrameTally
tally_found [] = None
tally_found (finding ∷ _) = Some (tally_of finding)

-- the time of what found findings, of one line
abbrev pub time_told : List Found → Option ℕ
time_told [] = None
time_told (f ∷ _) = time_found f

-- what is found of the line with this number was added, the counters are those after it, and the answers are what it
-- counts as, and its time, if times are looked at
abbrev pub JudgesLine : WatchState → ℕ → List ℕ → WatchState → Option FrameTally → Option ℕ → Type 0
JudgesLine old number line new counts time =
    (findings : List Finding) × WatchesLine old.mapping.lines (slice_index old.counters) number line findings
    × (new ≡ record old {
      counters = new.counters;
      text = old.text ++ found_text old.mapping (stamped line findings);
    })
    × (length new.counters ≡ length old.counters) × (counts ≡ tally_found findings)
    × (time ≡ time_wanted old.mapping (time_told (stamped line findings)))
    × ((place : ℕ) → place < length old.counters → slice_index new.counters place
    ≡ last_accepted place (slice_index old.counters place) (map finding_accepts findings))

-- a place is one of so many
abbrev pub IsPlaced : ℕ → FrameTally → Type 0
IsPlaced size (tally.Other kind) = Unit {0}
IsPlaced size (tally.Accepted place) = place < size
IsPlaced size (tally.Failed place) = place < size

-- one more is counted if a line counts as one that passes
abbrev pub counts_as : (FrameTally → Bool) → Option FrameTally → ℕ → ℕ
counts_as passes None count = count
counts_as passes (Some tally) count = if passes tally then counted count else count

-- the numbers of a log after one more line
abbrev pub counts_after : Option FrameTally → WatchCounts → WatchCounts
counts_after tally old = record {
  accepted = counts_as is_accepted_tally tally old.accepted;
  failed = counts_as is_failed_tally tally old.failed;
  unmapped = counts_as (is_other_of is_unmapped_line) tally old.unmapped;
  other_frames = counts_as (is_other_of is_other_frame) tally old.other_frames;
  malformed = counts_as (is_other_of is_malformed_line) tally old.malformed;
}

-- the place of the map's line that accepted a frame, or that didn't
abbrev pub accepted_place : Option FrameTally → Option ℕ
accepted_place None = None
accepted_place (Some (tally.Other kind)) = None
accepted_place (Some (tally.Accepted place)) = Some place
accepted_place (Some (tally.Failed place)) = None

abbrev pub failed_place : Option FrameTally → Option ℕ
failed_place None = None
failed_place (Some (tally.Other kind)) = None
failed_place (Some (tally.Accepted place)) = None
failed_place (Some (tally.Failed place)) = Some place

-- one more is counted at a place, if there is one
abbrev pub raised_at : Option ℕ → List ℕ → List ℕ
raised_at None numbers = numbers
raised_at (Some place) numbers = set numbers place (counted (slice_index numbers place))

-- the moments after one more line
abbrev pub clock_after : Option ℕ → LogClock → LogClock
clock_after time old =
    record { begin = first_time old.begin time; moment = moment_after old.moment time }

-- a line of the map is heard that accepted a frame with a time
abbrev pub heard_at : ℕ → Option ℕ → Option ℕ → List HeardTimes → List HeardTimes
heard_at place (Some begin) (Some moment) times =
    set times place (heard begin moment (unwrap_or (slice_get times place) no_times))
heard_at place (Some begin) None times = times
heard_at place None moment times = times

abbrev pub times_after : Option ℕ → Option ℕ → LogClock → List HeardTimes → List HeardTimes
times_after None time clock times = times
times_after (Some place) None clock times = times
times_after (Some place) (Some time) clock times = heard_at place clock.begin clock.moment times

abbrev pub heard_after : Option FrameTally → Option ℕ → WatchState → WatchState
heard_after tally time old = record old {
  clock = clock_after time old.clock;
  times = times_after (accepted_place tally) time (clock_after time old.clock) old.times;
}

-- what is found of the line with this number was added and counted
pub record WatchesNext (old : WatchState) (number : ℕ) (line : List ℕ) (new : WatchState) : Type 0 where
  pub findings : List Finding
  pub finds : WatchesLine old.mapping.lines (slice_index old.counters) number line findings
  pub counters : List ℕ
  pub as_many : length counters ≡ length old.counters
  pub counters_are : (place : ℕ) → place < length old.counters → slice_index counters place
      ≡ last_accepted place (slice_index old.counters place) (map finding_accepts findings)
  pub new_is : new ≡ record old {
    counters = counters;
    accepted = raised_at (accepted_place (tally_found findings)) old.accepted;
    failed = raised_at (failed_place (tally_found findings)) old.failed;
    counts = counts_after (tally_found findings) old.counts;
    clock = clock_after (time_wanted old.mapping (time_told (stamped line findings))) old.clock;
    times = times_after (accepted_place (tally_found findings))
        (time_wanted old.mapping (time_told (stamped line findings)))
        (clock_after (time_wanted old.mapping (time_told (stamped line findings))) old.clock) old.times;
    text = old.text ++ found_text old.mapping (stamped line findings);
  }

-- the longest silence of a line of the map, if the log ends here
abbrev pub silence_until : Option ℕ → Option ℕ → HeardTimes → Silence
silence_until (Some begin) (Some moment) times = until begin moment times
silence_until (Some begin) None times = endless_silence
silence_until None moment times = endless_silence

abbrev pub silence_at : WatchState → ℕ → Silence
silence_at state place =
    silence_until state.clock.begin state.clock.moment (unwrap_or (slice_get state.times place) no_times)

-- what a state has of the lines of its map
abbrev pub totals_in : WatchState → ℕ → LineCounts
totals_in state place = record {
  number = slice_index state.mapping.numbers place;
  accepted = slice_index state.accepted place;
  failed = slice_index state.failed place;
  last = slice_index state.counters place;
  silence = silence_at state place;
}

-- the text and the status at the end of a log, of a state
abbrev pub end_text : WatchState → List ℕ
end_text state = totals_text_of state.mapping (totals_in state) state.counts

abbrev pub end_status : WatchState → ℕ
end_status state = status_of state.mapping (totals_in state) state.counts

-- ---- over a sink

-- a watch, and the sink that it prints to
pub record WatchAtSink : Type 0 where
  pub watch : WatchState
  pub sink : SinkState

-- a line: what is found of it is added
abbrev pub WatchesLineAt : WatchAtSink → ℕ → List ℕ → WatchAtSink → Result (Unit {0}) ℕ → Type 0
WatchesLineAt before number line after (Ok _) =
    WatchesNext before.watch number line after.watch × (after.sink ≡ before.sink)
WatchesLineAt before number line after (Err _) = ⊥

-- a pause: the text is printed, and a new one begins; or the sink failed, and that ends the log with 6
abbrev pub PrintsFound : WatchAtSink → WatchAtSink → Result (Unit {0}) ℕ → Type 0
PrintsFound before after result = PutsPiece before.sink after.sink before.watch.text result
    × (after.watch ≡ record before.watch { text = [] }) × IfErr result (λ status. status ≡ 6)

-- the end of the log: the text and the totals are printed, and the status is that of all findings
abbrev pub TellsTotals : WatchAtSink → WatchAtSink → ℕ → Type 0
TellsTotals before after status =
    EndingTold before.sink after.sink (before.watch.text ++ end_text before.watch) (end_status before.watch) status
