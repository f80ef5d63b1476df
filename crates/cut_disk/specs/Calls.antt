-- What one call of a disk keeps and adds, and what any stretch of calls does.
use Rattle.std.specs.Prelude.{◌≡◌, ℕ, ◌^◌, ◌<◌, ◌≤◌, Bool, true, false, List, [], ◌∷◌, ◌++◌, length, Option, Some}
use Rattle.std.specs.Prelude.{is_some}
use Rattle.std.specs.List.{filter_map}
use Rattle.std.specs.Option.{option_to_list}
pub use Rattle.basics.specs.FaultCount.{Rose}
use Rattle.basics.specs.FaultCount.{last_count}
use Rattle.cut_disk.specs.declared.Mark.TheVariants.{Cut, Stop, Fail}
use Rattle.cut_disk.specs.State.{Told, Mark, Entry, past_entry, DiskState}

-- no call fails until one is armed: the disk says so, and its count is below the last value
pub record IsQuiet (s : DiskState) : Type 0 where
  pub quiet : s.quiet ≡ true
  pub below : s.faults < last_count

-- a quiet disk stays quiet, and its count stays: so none of the calls failed
pub record StaysQuiet (old new : DiskState) : Type 0 where
  pub quiet : new.quiet ≡ true
  pub faults : new.faults ≡ old.faults

abbrev pub KeepsQuiet : DiskState → DiskState → Type 0
KeepsQuiet old new = IsQuiet old → StaysQuiet old new

-- none of these calls makes a later one fail
abbrev pub arms_nothing : List Mark → Bool
arms_nothing [] = true
arms_nothing (Cut torn ∷ marks) = arms_nothing marks
arms_nothing (Stop calls ∷ marks) = false
arms_nothing (Fail calls ∷ marks) = false

-- a past gets one more entry, with this mark and the state now
pub record AddsOne (mark : Option Mark) (before : Option (List Entry)) (now : Option Told)
    (all : List Entry) : Type 0 where
  pub earlier : List Entry
  pub state : Told
  pub was : before ≡ Some earlier
  pub told : now ≡ Some state
  pub whole : all ≡ earlier ++ past_entry state mark ∷ []

-- One call: no size changes, and no count falls. The disk tells bytes after it exactly if it told them before. If it
-- tells its past, it told it before. Only a call that arms another ends a quiet time.
pub record Call (mark : Option Mark) (old new : DiskState) : Type 0 where
  pub size : new.size ≡ old.size
  pub later : old.faults ≤ new.faults
  pub tells : is_some new.told ≡ is_some old.told
  pub quiet : arms_nothing (option_to_list mark) ≡ true → KeepsQuiet old new
  pub past : (all : List Entry) → new.past ≡ Some all → AddsOne mark old.past new.told all

-- the marks of these entries, in order
abbrev pub marks_of : List Entry → List Mark
marks_of entries = filter_map (λ e. e.mark) entries

-- the state that the last of these entries left, or this one if there are none
abbrev pub newest : Option Told → List Entry → Option Told
newest told [] = told
newest told (e ∷ entries) = newest (Some e.state) entries

-- a past gets at most this many entries, with these marks in order, and the last of them left the state now
pub record AddsEntries (marks : List Mark) (most : ℕ) (old new : DiskState) (all : List Entry) : Type 0 where
  pub earlier : List Entry
  pub added : List Entry
  pub was : old.past ≡ Some earlier
  pub whole : all ≡ earlier ++ added
  pub few : length added ≤ most
  pub marked : marks_of added ≡ marks
  pub now : new.told ≡ newest old.told added

-- Any stretch of calls with these marks in order, and at most this many calls of any kind.
pub record Runs (marks : List Mark) (most : ℕ) (old new : DiskState) : Type 0 where
  pub size : new.size ≡ old.size
  pub later : old.faults ≤ new.faults
  pub tells : is_some new.told ≡ is_some old.told
  pub quiet : arms_nothing marks ≡ true → KeepsQuiet old new
  pub past : (all : List Entry) → new.past ≡ Some all → AddsEntries marks most old new all

-- the entries that a past had before stand first in it
pub record Continues (before : Option (List Entry)) (all : List Entry) : Type 0 where
  pub earlier : List Entry
  pub added : List Entry
  pub was : before ≡ Some earlier
  pub whole : all ≡ earlier ++ added

-- a later state of one disk: its count isn't below, and what it told of its past it still tells, if it tells any
pub record Later (old new : DiskState) : Type 0 where
  pub faults : old.faults ≤ new.faults
  pub past : (all : List Entry) → new.past ≡ Some all → Continues old.past all

-- a told past got at least one entry
pub record Grown (before : Option (List Entry)) (all : List Entry) : Type 0 where
  pub earlier : List Entry
  pub was : before ≡ Some earlier
  pub more : length earlier < length all

pub record Grows (old new : DiskState) : Type 0 where
  pub past : (all : List Entry) → new.past ≡ Some all → Grown old.past all

-- A disk is as before, except for at most this many reads, which its past may show and its arms may have counted.
pub record AsBefore (most : ℕ) (old new : DiskState) : Type 0 where
  pub runs : Runs [] most old new
  pub told : new.told ≡ old.told
  pub faults : new.faults ≡ old.faults

-- What holds of every disk.
pub record IsDisk (s : DiskState) : Type 0 where
  pub sized : s.size < 2 ^ 64
  pub counted : s.faults ≤ last_count
  pub quiet : s.quiet ≡ true → IsQuiet s
  pub bytes_sized : (t : Told) → s.told ≡ Some t → length t.bytes ≡ s.size
  pub loose_sized : (t : Told) → s.told ≡ Some t → length t.loose ≡ s.size
  pub now : (all : List Entry) → s.past ≡ Some all → s.told ≡ newest s.told all
