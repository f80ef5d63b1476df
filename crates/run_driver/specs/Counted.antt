-- Lines that are counted into a value.
use Rattle.std.specs.Prelude.{◌≡◌, ℕ, List, length, fold, Result, Ok, Err}
use Rattle.std.specs.declared.convert.Infallible.{Infallible}
use Rattle.machine_runs.specs.Run.{lines_in}
use Rattle.run_driver.specs.Driven.{FirstDone}

-- a line makes the value this, and none is refused
abbrev pub CountsLine : {L T : Type 0} → (T → L → T) → T → ℕ → L → T → Result (Unit {0}) Infallible → Type 0
CountsLine counts before number line after (Ok _) = after ≡ counts before line
CountsLine counts before number line after (Err _) = ⊥

-- all commands were done as a run, and the value is that of all its lines, one after another
abbrev pub Counted : {C L S T : Type 0} → (S → C → L → S → Type 0) → (T → L → T) → S → S → T → T → List C → Type 0
Counted steps counts start now before after commands =
    FirstDone steps start now commands
    (λ moments. (length moments ≡ length commands) × (after ≡ fold counts before (lines_in moments)))
