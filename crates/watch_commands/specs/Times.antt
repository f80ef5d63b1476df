-- The times of a log, in microseconds, and the longest time in which a line of the map accepted nothing
use Rattle.std.specs.Prelude.{ℕ, ◌&&◌, max, if◌then◌else◌, List, [], ◌∷◌, ◌++◌, map, Option, None, Some, is_some, unwrap_or}
use Rattle.std.specs.List.{fold}
use Rattle.can_logs.specs.Findings.{tally_of}
use Rattle.can_logs.specs.declared.findings.FrameTally.{FrameTally}
use Rattle.watch_commands.specs.declared.times.HeardTimes.{HeardTimes}
use Rattle.watch_commands.specs.declared.times.LogClock.{LogClock}
use Rattle.watch_commands.specs.declared.times.Silence.{Silence}
use Rattle.can_logs.specs.Seconds.{seconds_form}
use Rattle.watch_commands.specs.Silences.{no_silence, endless_silence, longer}
use Rattle.watch_commands.specs.Stamps.{LineStamp, within_ends}
use Rattle.watch_commands.specs.Watching.{Found}
use Rattle.watch_commands.specs.WatchTotals.{is_accepted_at, is_other_of, is_malformed_line}

-- ---- moments

-- the time of a line: none of one that is malformed, and none that isn't of the form
abbrev pub time_by : FrameTally → LineStamp → Option ℕ
time_by tally stamp = if is_other_of is_malformed_line tally then None else seconds_form (within_ends stamp.time)

abbrev pub time_found : Found → Option ℕ
time_found f = time_by (tally_of f.finding) f.stamp

-- the first time of a log
abbrev pub first_time : Option ℕ → Option ℕ → Option ℕ
first_time None time = time
first_time (Some begin) time = Some begin

abbrev pub begin_of : List Found → Option ℕ
begin_of found = fold first_time None (map time_found found)

-- a moment of a log is the greatest time so far: a log whose times fall back stands still
abbrev pub moment_after : Option ℕ → Option ℕ → Option ℕ
moment_after moment None = moment
moment_after None (Some time) = Some time
moment_after (Some now) (Some time) = Some (max now time)

abbrev pub moment_of : List Found → Option ℕ
moment_of found = fold moment_after None (map time_found found)

-- the moment of a frame that the map's line at a place accepts, if the frame has a time
abbrev pub heard_now : ℕ → Found → Option ℕ → List ℕ
heard_now place f None = []
heard_now place f (Some moment) =
    if is_accepted_at place (tally_of f.finding) && is_some (time_found f) then moment ∷ [] else []

-- the moments of all of them, in a log that goes on from a moment
abbrev pub heard_from : ℕ → Option ℕ → List Found → List ℕ
heard_from place moment [] = []
heard_from place moment (f ∷ fs) =
    heard_now place f (moment_after moment (time_found f)) ++ heard_from place (moment_after moment (time_found f)) fs

-- ---- silence

-- each of these moments and the one before it
abbrev pub between : ℕ → List ℕ → List Silence
between before [] = []
between before (moment ∷ moments) = record { from = before; to = moment } ∷ between moment moments

-- the last of them
abbrev pub last_of : List ℕ → Option ℕ
last_of [] = None
last_of (moment ∷ moments) = Some (unwrap_or (last_of moments) moment)

-- the longest silence behind a moment, up to the last of these
abbrev pub longest : ℕ → List ℕ → Silence
longest begin moments = fold longer no_silence (between begin moments)

-- that of the map's line at a place: from the log's first time, or from a frame that it accepted, to the next such frame
-- or to the log's last moment. In a log without times it has no end
abbrev pub silence_in : List ℕ → Option ℕ → Option ℕ → Silence
silence_in heard (Some begin) (Some end) = longest begin (heard ++ end ∷ [])
silence_in heard (Some begin) None = endless_silence
silence_in heard None end = endless_silence

abbrev pub silence_of : ℕ → List Found → Silence
silence_of place found = silence_in (heard_from place None found) (begin_of found) (moment_of found)

-- ---- what is kept of it: the last moment at which the line was heard, and the longest silence before

abbrev pub no_times : HeardTimes
no_times = record { last = None; longest = no_silence }

-- the longest silence, if the line is silent up to a moment of a log that begins so
abbrev pub until : ℕ → ℕ → HeardTimes → Silence
until begin moment t = longer t.longest (record { from = unwrap_or t.last begin; to = moment })

-- the line is heard at a moment
abbrev pub heard : ℕ → ℕ → HeardTimes → HeardTimes
heard begin moment t = record { last = Some moment; longest = until begin moment t }

-- what is kept after these findings: the log's moments, and when a line of the map was heard
abbrev pub clock_of : List Found → LogClock
clock_of found = record { begin = begin_of found; moment = moment_of found }

abbrev pub times_of : ℕ → List Found → HeardTimes
times_of place found = record {
  last = last_of (heard_from place None found);
  longest = longest (unwrap_or (begin_of found) 0) (heard_from place None found);
}
