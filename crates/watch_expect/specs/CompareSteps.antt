-- What the steps of a comparison say to one another
use Rattle.std.specs.Prelude.{◌≡◌, ◌⊎◌, ℕ, ◌<◌, ◌≤◌, List, [], ◌++◌, length, take, drop, Option, None, Some, Result, Ok, Err}
use Rattle.program_edge.specs.declared.input.InputFault.{InputFault}
use Rattle.program_edge.specs.Inputs.{Reading, Lacks}
use Rattle.program_edge.specs.Rows.{Row}
use Rattle.watch_commands.specs.WatchedMaps.{WatchedMap}
use Rattle.watch_commands.specs.States.{WatchState, WatchesNext, end_text}
use Rattle.watch_commands.specs.WatchRows.{FailsOfLog}
use Rattle.watch_expect.specs.declared.texts.Difference.{Difference}
use Rattle.watch_expect.specs.Comparing.{LeavesAt, PrintsAll, DiffersIn, writes_bytes}
use Rattle.watch_expect.specs.Expects.{kept_row}

-- why a source gives no kept text
abbrev pub IsKeptRow : Reading → Row → Type 0
IsKeptRow kept row = (fault : InputFault) × Lacks kept fault × (row ≡ kept_row fault)

-- what goes on behind the first bytes of a text: all of it is the text's next bytes, which end there; or both texts part
abbrev pub FollowsKept : List ℕ → ℕ → List ℕ → Result ℕ Difference → Type 0
FollowsKept text at found (Ok n) = (n ≤ length text) × (take n text ≡ take at text ++ found)
FollowsKept text at found (Err d) = (d.place ≤ length text) × LeavesAt text (take at text ++ found) d.place
    × (drop d.from found ≡ drop d.place (take at text ++ found))

-- the same if nothing goes on behind it
abbrev pub EndsAsKept : List ℕ → ℕ → List ℕ → Option Difference → Type 0
EndsAsKept text at found None = text ≡ take at text ++ found
EndsAsKept text at found (Some d) = (d.place ≤ length text)
    × (LeavesAt text (take at text ++ found) d.place
    ⊎ ((d.place < length text) × (take d.place text ≡ take at text ++ found)))
    × (drop d.from found ≡ drop d.place (take at text ++ found))

-- how a comparison ends that leaves this of what was found: what is printed of the log is the text, or it differs; or the
-- log failed
abbrev pub ComparesLog : WatchedMap → Reading → List ℕ → List ℕ → Result (Option Difference) Row → Type 0
ComparesLog mapping log text left (Ok None) = PrintsAll mapping log text
ComparesLog mapping log text left (Ok (Some d)) =
    (d.place ≤ length text) × DiffersIn mapping log text d.place (drop d.from left)
ComparesLog mapping log text left (Err row) = (n : ℕ) × FailsOfLog mapping log (writes_bytes (take n text)) row

-- ---- a watch, as what the driver of a log hands its lines to

-- a watch, the kept text, and how many of its first bytes are what was found so far
pub record WatchAtText : Type 0 where
  pub watch : WatchState
  pub text : List ℕ
  pub at : ℕ

-- a line: what is found of it is added
abbrev pub ComparesLine : WatchAtText → ℕ → List ℕ → WatchAtText → Result (Unit {0}) (Option Difference) → Type 0
ComparesLine before number line after (Ok _) =
    WatchesNext before.watch number line after.watch × (after.text ≡ before.text) × (after.at ≡ before.at)
ComparesLine before number line after (Err _) = ⊥

-- a pause: what was found is the text's next, and a new one begins; or the texts part, and that ends the log
abbrev pub FollowsFound : WatchAtText → WatchAtText → Result (Unit {0}) (Option Difference) → Type 0
FollowsFound before after (Ok _) = (after.text ≡ before.text)
    × (take after.at before.text ≡ take before.at before.text ++ before.watch.text)
    × (after.watch ≡ record before.watch { text = [] })
FollowsFound before after (Err end) = (d : Difference) × (end ≡ Some d) × (d.place ≤ length before.text)
    × LeavesAt before.text (take before.at before.text ++ before.watch.text) d.place
    × (drop d.from after.watch.text ≡ drop d.place (take before.at before.text ++ before.watch.text))

-- the end of the log: what was found, and the totals, are the rest of the text, or the texts part
abbrev pub EndsFound : WatchAtText → WatchAtText → Option Difference → Type 0
EndsFound before after end = EndsAsKept before.text before.at (before.watch.text ++ end_text before.watch) end
    × (after.watch.text ≡ before.watch.text ++ end_text before.watch)
