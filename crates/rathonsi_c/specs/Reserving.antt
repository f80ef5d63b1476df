-- A reserve of what a route needs next. It says so if there is nothing to reserve.
use Rattle.std.specs.Prelude.{ℤ, ◌≡◌, ℕ, ◌+◌, ◌^◌, ◌≤◌, ◌⊎◌, List}
use Rattle.freshness_routes.specs.Changes.{bound_ahead}
use Rattle.freshness_routes.specs.declared.routes.Direction.{Direction}
use Rattle.freshness_routes.specs.declared.routes.Direction.TheVariants.{Sends, Receives}
use Rattle.store_plan.specs.declared.planning.Plan.{Plan}
use Rattle.store_plan.specs.Plans.{IsEmptyPlan}
use Rattle.rathonsi_c.specs.declared.TheConstants.{BAD_VALUE, BUSY, RESERVE, EXHAUSTED, COVERED}
use Rattle.rathonsi_c.specs.declared.route.RathonsiRoute.{RathonsiRoute}
use Rattle.rathonsi_c.specs.declared.secoc.RathonsiVerdict.{RathonsiVerdict}
use Rattle.rathonsi_c.specs.Causes.{IfCause, IsDone}
use Rattle.rathonsi_c.specs.Images.{ImageBound}
use Rattle.rathonsi_c.specs.Routes.{IsFarAhead, PlanAnswers, Reserves, status_alone}
use Rattle.rathonsi_c.specs.Steps.{BoundAnswers}

-- the bound in the image is as high already as a reserve of this freshness would make it
pub record CoversReserve (r : RathonsiRoute) (image : List ℕ) (direction : Direction) (freshness : ℕ) : Type 0 where
  pub bound : ℕ
  pub kept : ImageBound image r.cell r.data_id direction bound
  pub high : bound_ahead r.reserve freshness ≤ bound

-- of a route that is open in this direction: the freshness is too far ahead, or reserved already, or else it is planned
abbrev pub FreshAnswers : RathonsiRoute → Direction → List ℕ → ℕ → ℤ → Type 0
FreshAnswers r direction image freshness status =
    IfCause (IsFarAhead r image freshness) BAD_VALUE
    (IfCause (CoversReserve r image direction freshness) COVERED IsDone) status

-- what `rathonsi_route_reserve_next` answers
abbrev pub ReserveNextAnswers : RathonsiRoute → List ℕ → Plan → ℤ → Type 0
ReserveNextAnswers r image plan status =
    IfCause (¬ IsEmptyPlan plan) BUSY
    (BoundAnswers status_alone r Sends image
    (IfCause (r.counter + 1 ≡ 2 ^ 64) EXHAUSTED (FreshAnswers r Sends image (r.counter + 1)))) status

-- what `rathonsi_route_reserve_for` answers
abbrev pub ReserveForAnswers : RathonsiRoute → RathonsiVerdict → List ℕ → Plan → ℤ → Type 0
ReserveForAnswers r verdict image plan status =
    IfCause (¬ IsEmptyPlan plan) BUSY
    (IfCause (¬ (verdict.status ≡ RESERVE)) BAD_VALUE
    (BoundAnswers status_alone r Receives image (FreshAnswers r Receives image verdict.freshness))) status

-- the image keeps a bound that leaves the route at least so many
pub record LeavesAtLeast (r : RathonsiRoute) (image : List ℕ) (least : ℕ) : Type 0 where
  pub direction : Direction
  pub bound : ℕ
  pub kept : ImageBound image r.cell r.data_id direction bound
  pub left : r.counter + least ≤ bound

-- the bound of the route is the last freshness
abbrev pub BoundIsLast : RathonsiRoute → List ℕ → Type 0
BoundIsLast r image =
    (direction : Direction)
    × ((bound : ℕ) × (ImageBound image r.cell r.data_id direction bound × (bound + 1 ≡ 2 ^ 64)))

-- what is planned is a reserve above the bound that the image keeps
pub record ReservesAhead (r : RathonsiRoute) (image : List ℕ) (old new : Plan) : Type 0 where
  pub direction : Direction
  pub bound : ℕ
  pub kept : ImageBound image r.cell r.data_id direction bound
  pub reserved : Reserves r image (bound + 1) old new

-- what `rathonsi_route_reserve_ahead` answers
abbrev pub ReserveAheadAnswers : RathonsiRoute → ℕ → List ℕ → Plan → ℤ → Type 0
ReserveAheadAnswers r least image plan status =
    PlanAnswers r image plan
    (IfCause (LeavesAtLeast r image least ⊎ BoundIsLast r image) COVERED IsDone) status
