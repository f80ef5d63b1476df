-- The sources that a program reads whole
use Rattle.std.specs.Prelude.{◌≡◌, ℕ, ◌+◌, ◌<◌, ◌≤◌, List, length, Some}
use Rattle.bus_port.specs.Fault.{Rose, last_count}
use Rattle.bus_port.specs.Source.{SourceState}
use Rattle.bus_port.specs.Whole.{ReadsAll, CameBeyond}
use Rattle.program_edge.specs.Input.{input_limit, NoInput}
use Rattle.program_edge.specs.declared.input.InputFault.{InputFault}

-- what was known of a source before and after
pub record Reading : Type 0 where
  pub before : SourceState
  pub after : SourceState

-- nothing was asked of it
abbrev pub IsUnread : Reading → Type 0
IsUnread r = r.after ≡ r.before

-- it was read to its end, with at most 1,048,576 bytes and no fault
abbrev pub ReadsWhole : Reading → List ℕ → Type 0
ReadsWhole r text = ReadsAll r.before r.after input_limit text

-- it gave no input, and this is why
abbrev pub Lacks : Reading → InputFault → Type 0
Lacks r fault = NoInput r.before r.after fault

-- it failed: its count of faults rose, or stands at its last value
abbrev pub SourceFailed : Reading → Type 0
SourceFailed r = Rose r.before.faults r.after.faults

abbrev pub CountsFault : Reading → Type 0
CountsFault r = r.before.faults < r.after.faults

-- one byte more than an input may have came from it
abbrev pub GivesTooMuch : Reading → Type 0
GivesTooMuch r = CameBeyond r.before r.after input_limit

abbrev pub CountsTooMuch : Reading → Type 0
CountsTooMuch r =
    (r.before.taken + input_limit < last_count) × (r.before.taken + input_limit < r.after.taken)

-- it tells this text, of at most 1,048,576 bytes, and didn't fail
abbrev pub Offers : Reading → List ℕ → Type 0
Offers r text = (r.before.told ≡ Some text) × (length text ≤ input_limit) × (¬ SourceFailed r)
