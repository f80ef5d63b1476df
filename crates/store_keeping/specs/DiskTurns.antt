-- What the steps of a machine do to one disk that is seen in its state: what each adds to the disk's past, and which of
-- its lines tell a failure
use Rattle.std.specs.Prelude.{◌≡◌, ◌≢◌, ◌⊎◌, ℕ, ◌+◌, ◌≤◌, Bool, true, false, not, IfSome, Option, None, Some, List, []}
use Rattle.std.specs.Prelude.{◌∷◌, ◌++◌, length, count_by}
use Rattle.std.specs.Option.{option_to_list}
use Rattle.basics.specs.FaultCount.{last_count, Rose}
use Rattle.machine_runs.specs.Run.{Moment}
use Rattle.machine_runs.specs.Past.{Traced}
use Rattle.cut_disk.specs.declared.Mark.{Mark}
use Rattle.cut_disk.specs.State.{DiskState, Told, Entry}
use Rattle.cut_disk.specs.Calls.{IsQuiet, StaysQuiet, Runs, Grows, arms_nothing, marks_of, newest}

-- ---- one step

-- a count of faults rose if the line tells a failure; else it is as it was
abbrev pub CountsFailure : Bool → ℕ → ℕ → Type 0
CountsFailure true before after = Rose before after
CountsFailure false before after = after ≡ before

-- a step made at most so many calls of the disk, only one of which can have a mark. Its line tells a failure or not
pub record DiskTurn (mark : Option Mark) (most : ℕ) (fails : Bool) (before after : DiskState) : Type 0 where
  pub runs : Runs (option_to_list mark) most before after
  pub counts : CountsFailure fails before.faults after.faults

-- before a run: at most so many calls opened what stands on the disk, at least one, without a mark or a failure
pub record OpenedDisk (most : ℕ) (before after : DiskState) : Type 0 where
  pub runs : Runs [] most before after
  pub grows : Grows before after
  pub faults : after.faults ≡ before.faults

-- the disk tells its bytes, and they fit
pub record TellsBytes (fits : Told → Type 0) (disk : DiskState) : Type 0 where
  pub now : Told
  pub told : disk.told ≡ Some now
  pub fit : fits now

-- ---- the past of the disk

-- the last of these entries left a state that fits
abbrev pub EndsAs : (Told → Type 0) → List Entry → Type 0
EndsAs fits entries = (entries ≢ []) × IfSome (newest None entries) fits

-- entries without a mark, before the first step
abbrev pub OpensPast : (Told → Type 0) → List Entry → Type 0
OpensPast fits first = (marks_of first ≡ []) × EndsAs fits first

-- a command adds entries with its mark, at most so many, and then the last state fits the machine's state
pub record AddsTurn {C L T : Type 0} (mark : C → Option Mark) (most : T → C → ℕ) (fits : T → Told → Type 0)
    (past : List Entry) (m : Moment C L T) (part : List Entry) : Type 0 where
  pub marks : marks_of part ≡ option_to_list (mark m.command)
  pub few : length part ≤ most m.after m.command
  pub ends : EndsAs (fits m.after) (past ++ part)

-- since then a past got the entries of these moments, and no others
pub record TracedSince {C L T : Type 0} (mark : C → Option Mark) (most : T → C → ℕ) (fits : T → Told → Type 0)
    (start : T) (moments : List (Moment C L T)) (before : DiskState) (all : List Entry) : Type 0 where
  pub earlier : List Entry
  pub added : List Entry
  pub was : before.past ≡ Some earlier
  pub whole : all ≡ earlier ++ added
  pub traced : Traced (λ (s : T). OpensPast (fits s)) (AddsTurn mark most fits) start moments added

-- ---- failures

-- a later call may fail
abbrev pub arms_later : Option Mark → Bool
arms_later mark = not (arms_nothing (option_to_list mark))

-- the lines that tell a failure are at most the rise of the disk's count, or that stands at its last value; a disk that
-- was quiet gives none before the first command that arms it, and stays as quiet if none does
pub record FailuresTold {C L T : Type 0} (mark : C → Option Mark) (fails : C → L → Bool)
    (moments : List (Moment C L T)) (before after : DiskState) : Type 0 where
  pub later : before.faults ≤ after.faults
  pub within : (before.faults + count_by (λ m. fails m.command m.line) moments ≤ after.faults)
      ⊎ (last_count ≤ after.faults)
  pub quiet : IsQuiet before → (front rest : List (Moment C L T)) (m : Moment C L T) → moments ≡ front ++ m ∷ rest
      → count_by (λ n. arms_later (mark n.command)) (front ++ m ∷ []) ≡ 0 → fails m.command m.line ≡ false
  pub still : IsQuiet before → count_by (λ n. arms_later (mark n.command)) moments ≡ 0 → StaysQuiet before after
