-- The put that a plan makes.
use Rattle.std.specs.Prelude.{◌≡◌, ◌⊎◌, ℕ, ◌+◌, ◌<◌, List, [], ◌∷◌, length}
use Rattle.cell_store.specs.declared.copies.Side.{Side}
use Rattle.cell_store.specs.Copies.{side_at}
use Rattle.store_plan.specs.declared.planning.Write.{Write}
use Rattle.store_plan.specs.declared.planning.Plan.{Plan}
use Rattle.store_plan.specs.Plans.{WritesAt}

-- the write is of a mark and this payload, from a place on
pub record FillsCopy (write : Write) (at : ℕ) (c : List ℕ) : Type 0 where
  pub mark : ℕ
  pub few : mark < 3
  pub sized : length c ≡ 32
  pub fills : WritesAt write at (mark ∷ c)

-- The writes of a plan are those of a put of c at cell i. The gate of one of its copies is closed, if there is a first
-- write. Mark and payload are written behind it, and it is opened.
pub record WritesPut (plan : Plan) (i : ℕ) (c : List ℕ) : Type 0 where
  pub side : Side
  pub closes : (plan.first.size ≡ 0) ⊎ WritesAt plan.first (side_at i side) (0 ∷ [])
  pub fills : FillsCopy plan.second (side_at i side + 1) c
  pub opens : WritesAt plan.third (side_at i side) (0xa7 ∷ [])
