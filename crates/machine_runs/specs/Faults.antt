-- Failed lines of a run, against the count of faults of what failed.
use Rattle.std.specs.Prelude.{◌≡◌, ℕ, ◌+◌, ◌≤◌, ◌⊎◌, List, [], ◌∷◌, Bool, true, false, count_by}
use Rattle.basics.specs.FaultCount.{last_count, Rose}
use Rattle.machine_runs.specs.Run.{Moment, lines_in}

-- a step whose count of faults doesn't fall, and rose if its line tells a failure
pub record Counts {L S : Type 0} (fails : L → Bool) (count : S → ℕ) (before : S) (line : L) (after : S) : Type 0 where
  pub later : count before ≤ count after
  pub rose : fails line ≡ true → Rose (count before) (count after)

-- the failed lines of a run are at most the rise of the count, or it stands at its last value
pub record FailsWithin {C L S : Type 0} (fails : L → Bool) (count : S → ℕ) (start : S) (moments : List (Moment C L S))
    (now : S) : Type 0 where
  pub later : count start ≤ count now
  pub within : (count start + count_by fails (lines_in moments) ≤ count now) ⊎ (last_count ≤ count now)

-- up to the first command that arms a fault, no line tells a failure
abbrev pub QuietUntilArmed : {C L S : Type 0} → (C → Bool) → (L → Bool) → List (Moment C L S) → Type 0
QuietUntilArmed arms fails [] = Unit {0}
QuietUntilArmed arms fails (m ∷ ms) =
    arms m.command ≡ false → (fails m.line ≡ false) × QuietUntilArmed arms fails ms
