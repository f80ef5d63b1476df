-- What a store means, and what a call of it may write.
use Rattle.std.specs.Prelude.{ℕ, List, set, if◌then◌else◌}
use Rattle.seal_parts.specs.declared.PartClass.TheVariants.{Blanks}
use Rattle.seal_parts.specs.Parts.{PartFlash}
use Rattle.seal_parts.specs.Designs.{MayDoPartWrites}
use Rattle.seal_logs.specs.declared.starting.FoundStore.{FoundStore}
use Rattle.seal_logs.specs.declared.starting.StartEnd.TheVariants.{Found}
use Rattle.seal_laws.specs.declared.SealSizes.{SealSizes}
use Rattle.seal_laws.specs.declared.SealPoint.{SealPoint}
use Rattle.seal_laws.specs.Writes.{start_writes, put_writes, move_writes, FitsPut, FitsMove}
use Rattle.seal_laws.specs.Lives.{SealStage, seal_off, seal_ready, SealMachine, FindsSeal}
use Rattle.seal_store.specs.declared.SealStore.{SealStore}

-- a part, and no store that was started
abbrev pub off_at : PartFlash → SealMachine
off_at f = record { flash = f; stage = seal_off }

-- a store is ready until a put fails
abbrev pub seal_stage_of : SealStore → List (List ℕ) → SealStage
seal_stage_of store cells = if store.is_ready then seal_ready store.point cells else seal_off

-- a part, a store that was started on it, and its cells
abbrev pub machine_at : PartFlash → SealStore → List (List ℕ) → SealMachine
machine_at f store cells = record { flash = f; stage = seal_stage_of store cells }

-- whatever store a start may find, what it programs then may be programmed
abbrev pub MayStart : SealSizes → PartFlash → Type 0
MayStart s f = (found : FoundStore) (cells : List (List ℕ)) (after : PartFlash)
    → FindsSeal Blanks s (off_at f) (Found found) cells after
    → MayDoPartWrites Blanks (start_writes Blanks s found) after

-- what a put writes at this point may be written
pub record MayPut (s : SealSizes) (p : SealPoint) (cell : ℕ) (payload : List ℕ) (cells : List (List ℕ))
    (f : PartFlash) : Type 0 where
  pub next : FitsPut s p → MayDoPartWrites Blanks (put_writes Blanks p cell payload) f
  pub moves : (FitsPut s p → ⊥) → FitsMove s p
      → MayDoPartWrites Blanks (move_writes Blanks s p (set cells cell payload)) f

-- no place is left for a put, nor for a move, or no generation
pub record IsFull (s : SealSizes) (p : SealPoint) : Type 0 where
  pub next : FitsPut s p → ⊥
  pub moves : FitsMove s p → ⊥
