-- What the power may leave of a store while a plan is under way. It is said of cells, so it holds of a device of bytes,
-- and of a device that keeps cells and makes the image anew at each start.
use Rattle.std.specs.Prelude.{◌≡◌, ◌≢◌, ◌⊎◌, ℕ, ◌<◌, Some, List, [], length, get_or}
use Rattle.cell_store.specs.declared.kinds.Version.TheVariants.{One}
use Rattle.cell_store.specs.Layout.{twin_layout, part}
use Rattle.cell_store.specs.Twin.{twin_size, cell_at}
use Rattle.cell_store.specs.Store.{HasHeader}
use Rattle.store_plan.specs.declared.planning.Plan.{Plan}
use Rattle.store_plan.specs.Plans.{PlansPut, IsEmptyPlan}

-- y is as long as x, with the same header and the same cells
pub record SameCells (x y : List ℕ) : Type 0 where
  pub size : length y ≡ length x
  pub head : part 0 32 y ≡ part 0 32 x
  pub cells : (i : ℕ) → cell_at y i ≡ cell_at x i

-- y is as long as x, with the same header; cell i is the same or c, and every other cell is the same
pub record SameOrPut (i : ℕ) (c x y : List ℕ) : Type 0 where
  pub size : length y ≡ length x
  pub head : part 0 32 y ≡ part 0 32 x
  pub cell : (cell_at y i ≡ cell_at x i) ⊎ (cell_at y i ≡ Some c)
  pub others : (other : ℕ) → other ≢ i → cell_at y other ≡ cell_at x other

-- The power came back while a plan was under way over x: its put is done or not, and if nothing was planned, all cells
-- are the same.
pub record LeavesPut (plan : Plan) (x y : List ℕ) : Type 0 where
  pub put : (i : ℕ) (c : List ℕ) → PlansPut plan x i c → SameOrPut i c x y
  pub none : IsEmptyPlan plan → SameCells x y

-- the image is as long as a store of version 1 of these cells, and holds them
pub record IsImageOf (image : List ℕ) (cells : List (List ℕ)) : Type 0 where
  pub size : length image ≡ twin_size (length cells)
  pub head : HasHeader (twin_layout One) (length cells) image
  pub held : (i : ℕ) → i < length cells → cell_at image i ≡ Some (get_or cells i [])
