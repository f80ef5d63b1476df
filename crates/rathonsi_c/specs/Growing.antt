-- The size of a store, by what its cells say; and a store that gets the cell of one route more, by a software update.
use Rattle.std.specs.Prelude.{ℤ, ◌≡◌, ℕ, ◌+◌, ◌<◌, ◌≤◌, ◌⊎◌, Some, List, length, replicate}
use Rattle.cell_store.specs.declared.kinds.Version.TheVariants.{One}
use Rattle.cell_store.specs.Layout.{twin_layout}
use Rattle.cell_store.specs.Twin.{twin_size, cell_at}
use Rattle.cell_store.specs.Store.{HasHeader}
use Rattle.freshness_routes.specs.declared.routes.Direction.{Direction}
use Rattle.freshness_store.specs.Bound.{bound_cell}
use Rattle.store_plan.specs.declared.growing.TellFault.{TellFault}
use Rattle.store_plan.specs.declared.growing.TellFault.TheVariants.{NoStore, TooShort, Damaged}
use Rattle.store_plan.specs.declared.planning.Plan.{Plan}
use Rattle.store_plan.specs.Plans.{PlansPut, IsEmptyPlan}
use Rattle.store_plan.specs.Growing.{HasHeadButCount, SaysCells, EndsTooSoon, MayGrow, PlansGrowth, PlansCount}
use Rattle.rathonsi_c.specs.declared.TheConstants.{BAD_LENGTH, BAD_VALUE, NO_STORE, DAMAGED, BUSY, WRONG_CELL}
use Rattle.rathonsi_c.specs.declared.TheConstants.{DUPLICATE_ID}
use Rattle.rathonsi_c.specs.declared.route.RathonsiRoute.{RathonsiRoute}
use Rattle.rathonsi_c.specs.Causes.{IfCause, IsDone}
use Rattle.rathonsi_c.specs.Images.{ImageBound}
use Rattle.rathonsi_c.specs.Routes.{InRanges, OutOfRanges, CellAnswers}
use Rattle.rathonsi_c.specs.Stores.{RouteIdIsHeld}

-- the cells of the image say that there are n: fourteen slots and at most 256 routes
pub record SaysSize (image : List ℕ) (n : ℕ) : Type 0 where
  pub least : 14 ≤ n
  pub most : n ≤ 270
  pub says : SaysCells image n

abbrev pub untold_status : TellFault → ℤ
untold_status NoStore = NO_STORE
untold_status TooShort = BAD_LENGTH
untold_status Damaged = DAMAGED

-- why an image says no number of cells, and else what the rest says
abbrev pub TellAnswers : List ℕ → (ℤ → Type 0) → ℤ → Type 0
TellAnswers image rest status =
    IfCause (length image < twin_size 14) BAD_LENGTH
    (IfCause (¬ HasHeadButCount image 1) NO_STORE
    (IfCause (EndsTooSoon image) BAD_LENGTH
    (IfCause ((n : ℕ) → ¬ SaysSize image n) DAMAGED rest))) status

-- it says none, for this reason
abbrev pub Untold : List ℕ → TellFault → Type 0
Untold image fault = TellAnswers image (λ _. ⊥) (untold_status fault)

-- what `rathonsi_store_size` answers
abbrev pub SizeAnswers : List ℕ → ℤ → Type 0
SizeAnswers image status = TellAnswers image IsDone status

-- the size of the store that the image begins with
pub record GivesSize (image : List ℕ) (size : ℕ) : Type 0 where
  pub count : ℕ
  pub told : SaysSize image count
  pub is : size ≡ twin_size count

-- what `rathonsi_store_mend` answers
abbrev pub MendAnswers : List ℕ → Plan → ℤ → Type 0
MendAnswers image plan status = IfCause (¬ IsEmptyPlan plan) BUSY (TellAnswers image IsDone) status

-- into an empty plan comes the number of cells that the cells say, or nothing if the header has it
pub record PlansNumber (image : List ℕ) (old new : Plan) : Type 0 where
  pub empty : IsEmptyPlan old
  pub count : ℕ
  pub told : SaysSize image count
  pub plans : (HasHeader (twin_layout One) count image × (new ≡ old))
      ⊎ ((¬ HasHeader (twin_layout One) count image) × PlansCount new count)

-- ---- a cell more

-- a store has this cell, and the image its place
pub record HasPlace (cell : ℕ) (image : List ℕ) : Type 0 where
  pub most : cell < 270
  pub room : twin_size (cell + 1) ≤ length image

-- the cell holds zero bytes: it is nobody's
abbrev pub IsSpare : List ℕ → ℕ → Type 0
IsSpare image place = cell_at image place ≡ Some (replicate 32 0)

-- of a cell that the store has: it is nobody's, or the route's, or another's
abbrev pub OwnAnswers : RathonsiRoute → List ℕ → ℤ → Type 0
OwnAnswers r image status =
    (IsSpare image r.cell × IsDone status) ⊎ ((¬ IsSpare image r.cell) × CellAnswers r image IsDone status)

-- of a cell that the store of n cells has, or gets next, or neither
abbrev pub CellPlaceAnswers : RathonsiRoute → List ℕ → ℕ → ℤ → Type 0
CellPlaceAnswers r image n status =
    ((r.cell < n) × OwnAnswers r image status)
    ⊎ ((n ≤ r.cell) × IfCause (n < r.cell) WRONG_CELL
    (IfCause (length image < twin_size (n + 2)) BAD_LENGTH (IfCause (¬ MayGrow image n) DAMAGED IsDone)) status)

-- of a store of n cells: the number in its header is another, or else as the place of the cell says
abbrev pub NumberAnswers : RathonsiRoute → List ℕ → ℕ → ℤ → Type 0
NumberAnswers r image n status =
    ((¬ HasHeader (twin_layout One) n image) × IsDone status)
    ⊎ (HasHeader (twin_layout One) n image
    × IfCause (RouteIdIsHeld r image n) DUPLICATE_ID (CellPlaceAnswers r image n) status)

-- what `rathonsi_store_grow` answers
abbrev pub GrowAnswers : RathonsiRoute → List ℕ → Plan → ℤ → Type 0
GrowAnswers r image plan status =
    IfCause (¬ IsEmptyPlan plan) BUSY
    (IfCause (OutOfRanges r) BAD_VALUE
    (IfCause (¬ HasPlace r.cell image) BAD_LENGTH
    (TellAnswers image (λ answer. (n : ℕ) × (SaysSize image n × NumberAnswers r image n answer))))) status

-- a cell that is nobody's gets the route's bound by one put; or it keeps a bound of the route, and nothing is planned
abbrev pub PlansOwn : RathonsiRoute → Direction → ℕ → List ℕ → Plan → Plan → Type 0
PlansOwn r direction bound image old new =
    (IsSpare image r.cell × PlansPut new image r.cell (bound_cell r.data_id direction bound))
    ⊎ (((kept : ℕ) × ImageBound image r.cell r.data_id direction kept) × (new ≡ old))

-- into an empty plan comes the number of cells alone; or, if the header has that number and no other cell has the Data
-- ID and direction, the next cell with the route's bound, or what a cell that the store has gets
pub record PlansCell (r : RathonsiRoute) (bound : ℕ) (image : List ℕ) (old new : Plan) : Type 0 where
  pub empty : IsEmptyPlan old
  pub direction : Direction
  pub ranges : InRanges r direction
  pub count : ℕ
  pub told : SaysSize image count
  pub plans : ((¬ HasHeader (twin_layout One) count image) × PlansCount new count)
      ⊎ (HasHeader (twin_layout One) count image × (¬ RouteIdIsHeld r image count)
      × (((r.cell ≡ count) × (count < 270) × MayGrow image count
      × PlansGrowth new count (bound_cell r.data_id direction bound))
      ⊎ ((r.cell < count) × PlansOwn r direction bound image old new)))
