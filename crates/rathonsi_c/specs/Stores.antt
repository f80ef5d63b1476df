-- The image of a whole store: fourteen key slots, and after them a cell a route.
use Rattle.std.specs.Prelude.{ℤ, ◌≡◌, ◌≢◌, ℕ, ◌+◌, ◌<◌, ◌≤◌, ◌⊎◌, None, IsSome, List, length}
use Rattle.cut_disk.specs.Images.{splice}
use Rattle.cell_store.specs.declared.kinds.Version.TheVariants.{One}
use Rattle.cell_store.specs.Layout.{twin_layout}
use Rattle.cell_store.specs.Twin.{twin_size, first_at, fresh_cell, cell_at}
use Rattle.cell_store.specs.Store.{HasHeader}
use Rattle.freshness_routes.specs.declared.routes.Direction.{Direction}
use Rattle.freshness_store.specs.Bound.{bound_cell}
use Rattle.store_plan.specs.declared.planning.Plan.{Plan}
use Rattle.store_plan.specs.Plans.{PlanFits}
use Rattle.rathonsi_c.specs.declared.TheConstants.{BAD_LENGTH, BAD_VALUE, NO_STORE, DAMAGED, DUPLICATE_ID, STALE_PLAN}
use Rattle.rathonsi_c.specs.declared.route.RathonsiRoute.{RathonsiRoute}
use Rattle.rathonsi_c.specs.Causes.{IfCause, IsDone}
use Rattle.rathonsi_c.specs.Images.{ImageBound, IdIsHeld}
use Rattle.rathonsi_c.specs.Routes.{InRanges, OutOfRanges}
use Rattle.rathonsi_c.specs.Stale.{IsStale}

-- a store of n cells has so many bytes: fourteen slots and at most 256 routes
pub record IsSize (n size : ℕ) : Type 0 where
  pub least : 14 ≤ n
  pub most : n ≤ 270
  pub is : size ≡ twin_size n

abbrev pub NoSize : ℕ → Type 0
NoSize size = (n : ℕ) → ¬ IsSize n size

-- a cell of the image is damaged
pub record HasDamage (image : List ℕ) : Type 0 where
  pub count : ℕ
  pub size : IsSize count (length image)
  pub cell : ℕ
  pub below : cell < count
  pub none : cell_at image cell ≡ None

-- a store, each of whose cells has a copy that counts
pub record IsWhole (image : List ℕ) : Type 0 where
  pub count : ℕ
  pub size : IsSize count (length image)
  pub head : HasHeader (twin_layout One) count image
  pub cells : (i : ℕ) → i < count → IsSome (cell_at image i)

-- what `rathonsi_store_make` answers
abbrev pub MakeAnswers : ℕ → ℤ → Type 0
MakeAnswers size status = IfCause (NoSize size) BAD_LENGTH IsDone status

-- what `rathonsi_store_check` answers
abbrev pub CheckAnswers : List ℕ → ℤ → Type 0
CheckAnswers image status =
    IfCause (NoSize (length image)) BAD_LENGTH
    (IfCause ((n : ℕ) → IsSize n (length image) → ¬ HasHeader (twin_layout One) n image) NO_STORE
    (IfCause (HasDamage image) DAMAGED IsDone)) status

-- another cell of n has the Data ID and direction of the route already
abbrev pub RouteIdIsHeld : RathonsiRoute → List ℕ → ℕ → Type 0
RouteIdIsHeld r image n = (direction : Direction) × (InRanges r direction × IdIsHeld image n r.cell r.data_id direction)

-- what `rathonsi_route_make` answers
abbrev pub RouteMakeAnswers : RathonsiRoute → List ℕ → ℤ → Type 0
RouteMakeAnswers r image status =
    IfCause (NoSize (length image)) BAD_LENGTH
    (IfCause (OutOfRanges r ⊎ (length image < twin_size (r.cell + 1))) BAD_VALUE
    (IfCause ((n : ℕ) × (IsSize n (length image) × RouteIdIsHeld r image n)) DUPLICATE_ID IsDone)) status

-- both copies of the route's cell hold the bound, and every other cell is as before
pub record RouteMade (r : RathonsiRoute) (bound : ℕ) (image new : List ℕ) : Type 0 where
  pub direction : Direction
  pub ranges : InRanges r direction
  pub made : new ≡ splice (first_at r.cell) (fresh_cell (bound_cell r.data_id direction bound)) image
  pub kept : ImageBound new r.cell r.data_id direction bound
  pub others : (other : ℕ) → other ≢ r.cell → cell_at new other ≡ cell_at image other

-- what `rathonsi_store_done` answers
abbrev pub DoneAnswers : List ℕ → Plan → ℤ → Type 0
DoneAnswers image plan status =
    IfCause (¬ PlanFits (length image) plan) BAD_VALUE (IfCause (IsStale image plan) STALE_PLAN IsDone) status
