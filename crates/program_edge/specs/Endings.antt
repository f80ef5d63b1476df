-- How a run ends: in a row that comes, or in 6 and a prefix of its text
use Rattle.std.specs.Prelude.{◌≡◌, ◌⊎◌, ℕ, ◌<◌, List}
use Rattle.bus_port.specs.Fault.{Rose}
use Rattle.bus_port.specs.Sink.{SinkState}
use Rattle.bus_port.specs.Whole.{AppendedPart}
use Rattle.program_edge.specs.Told.{AppendedWell, EndingTold}
use Rattle.program_edge.specs.Rows.{Row}

-- how a run ended: what was known of its sink before and after, and its status
pub record Ending : Type 0 where
  pub before : SinkState
  pub after : SinkState
  pub status : ℕ

-- exactly this text was written, and the sink didn't fail
abbrev pub PrintsWhole : Ending → List ℕ → Type 0
PrintsWhole e text = AppendedWell e.before e.after text

-- the sink failed: its count of faults rose, or stands at its last value
abbrev pub SinkFailed : Ending → Type 0
SinkFailed e = Rose e.before.faults e.after.faults

abbrev pub CountsWriteFault : Ending → Type 0
CountsWriteFault e = e.before.faults < e.after.faults

-- this status, or 6 if the sink failed
abbrev pub EndsIn : ℕ → Ending → Type 0
EndsIn n e = (e.status ≡ n) ⊎ (e.status ≡ 6)

-- this status, or 6 if the sink failed, or 7 if memory is out
abbrev pub MayEndIn : ℕ → Ending → Type 0
MayEndIn n e = (e.status ≡ n) ⊎ (e.status ≡ 6) ⊎ (e.status ≡ 7)

-- the program prints a row that comes: its text and status, or, if the sink failed, a prefix of it and 6
pub record EndsInRow (Comes : Row → Type 0) (e : Ending) : Type 0 where
  pub row : Row
  pub comes : Comes row
  pub told : EndingTold e.before e.after row.text row.status e.status

-- a proper prefix was written of the text of a row that comes
abbrev pub PrintsFront : (Row → Type 0) → Ending → Type 0
PrintsFront Comes e = (row : Row) × Comes row × AppendedPart e.before e.after row.text
