-- Machines made of members, each of whose commands concerns one of them.
use Rattle.std.specs.Prelude.{◌≡◌, ℕ, List, [], ◌∷◌, ◌++◌, cond, eqb, slice_get, Some, get_or, set}
use Rattle.machine_runs.specs.Run.{Moment}

-- the member at this place does the command, and the others are as before
pub record MemberSteps {C L S : Type 0} (steps : S → C → L → S → Type 0) (members : List S) (place : ℕ) (command : C)
    (line : L) (later : List S) : Type 0 where
  pub before : S
  pub after : S
  pub was : slice_get members place ≡ Some before
  pub step : steps before command line after
  pub others : later ≡ set members place after

-- the moments of the member at this place, in a run from the state `start`: its act there, its line, and its state
-- after it
abbrev pub of_member : {B C L S W : Type 0} → (W → List S) → (B → ℕ) → (W → B → C) → S → ℕ → W → List (Moment B L W)
    → List (Moment C L S)
of_member members place act default i start [] = []
of_member members place act default i start (m ∷ ms) =
    cond (eqb (place m.command) i)
    (record { command = act start m.command; line = m.line; after = get_or (members m.after) i default } ∷ []) []
    ++ of_member members place act default i m.after ms
