-- Several plans at once: each is a put into a cell of its own, and all are made over one image. The caller does the first
-- writes of all, makes these durable, then the second ones, and then the third ones. That takes three durable steps,
-- however many plans there are.
use Rattle.std.specs.Prelude.{◌≡◌, ◌≢◌, ℕ, zero, suc, ◌+◌, ◌<◌, ◌≤◌, ◌⊎◌, List, [], ◌∷◌, length, get_or}
use Rattle.cell_store.specs.Layout.{part}
use Rattle.freshness_routes.specs.Changes.{bound_ahead}
use Rattle.freshness_routes.specs.declared.routes.Direction.{Direction}
use Rattle.store_plan.specs.declared.planning.Write.{Write}
use Rattle.store_plan.specs.declared.planning.Plan.{Plan}
use Rattle.store_plan.specs.Plans.{PlansPut, bytes_written, applied}
use Rattle.rathonsi_c.specs.declared.route.RathonsiRoute.{RathonsiRoute}
use Rattle.rathonsi_c.specs.Routes.{Reserves}
use Rattle.rathonsi_c.specs.Lives.{Memory, Deed, reserves, finishes}

-- n plans over the image x, each of a put of these bytes into a cell; no two have one cell
pub record PlansEach (n : ℕ) (plans : ℕ → Plan) (x : List ℕ) (cells : ℕ → ℕ) (new : ℕ → List ℕ) : Type 0 where
  pub puts : (k : ℕ) → k < n → PlansPut (plans k) x (cells k) (new k)
  pub apart : (j k : ℕ) → j < n → k < n → j ≢ k → cells j ≢ cells k

-- the byte at this place is none of the write's
abbrev pub IsBeside : Write → ℕ → Type 0
IsBeside w at = (at < w.offset) ⊎ (w.offset + w.size ≤ at)

-- y is x, with anything in the bytes of these n writes
pub record KeepsBeside (n : ℕ) (writes : ℕ → Write) (x y : List ℕ) : Type 0 where
  pub lengths : length y ≡ length x
  pub same : (at : ℕ) → ((k : ℕ) → k < n → IsBeside (writes k) at) → get_or y at 0 ≡ get_or x at 0

-- y is what these n writes make of x, in whatever order they are done
pub record WritesEach (n : ℕ) (writes : ℕ → Write) (x y : List ℕ) : Type 0 where
  pub beside : KeepsBeside n writes x y
  pub written : (k : ℕ) → k < n → part (writes k).offset (writes k).size y ≡ bytes_written (writes k)

-- the writes of each step
abbrev pub each_first : (ℕ → Plan) → ℕ → Write
each_first plans k = (plans k).first

abbrev pub each_second : (ℕ → Plan) → ℕ → Write
each_second plans k = (plans k).second

abbrev pub each_third : (ℕ → Plan) → ℕ → Write
each_third plans k = (plans k).third

-- The power goes within a step. All writes of the steps before it are done. Each write of this one is done, isn't begun,
-- or leaves anything in its own bytes. None of a later step has begun.
pub data CutTogether (n : ℕ) (plans : ℕ → Plan) (x y : List ℕ) : Type 0 where
  within_first : KeepsBeside n (each_first plans) x y → CutTogether n plans x y
  within_second : (z : List ℕ) → WritesEach n (each_first plans) x z → KeepsBeside n (each_second plans) z y
      → CutTogether n plans x y
  within_third : (z u : List ℕ) → WritesEach n (each_first plans) x z → WritesEach n (each_second plans) z u
      → KeepsBeside n (each_third plans) u y → CutTogether n plans x y

-- all three steps are done
pub record DoneTogether (n : ℕ) (plans : ℕ → Plan) (x y : List ℕ) : Type 0 where
  pub once : List ℕ
  pub twice : List ℕ
  pub first : WritesEach n (each_first plans) x once
  pub second : WritesEach n (each_second plans) once twice
  pub third : WritesEach n (each_third plans) twice y

-- what `rathonsi_store_done` makes of the image, called for each of n plans in turn
abbrev pub applied_each : ℕ → (ℕ → Plan) → List ℕ → List ℕ
applied_each zero plans x = x
applied_each (suc n) plans x = applied (plans n) (applied_each n plans x)

-- ---- routes that reserve at once

-- a call that reserves planned the bound ahead of this freshness for the route, into an empty plan, since the image keeps
-- a lower one
pub record PlansHigher (r : RathonsiRoute) (direction : Direction) (freshness : ℕ) (image : List ℕ) (plan : Plan)
    : Type 0 where
  pub old : Plan
  pub reserved : Reserves r image freshness old plan
  pub way : reserved.direction ≡ direction
  pub higher : reserved.bound < bound_ahead r.reserve freshness

-- n of m routes do, each over the image and into a plan of its own; no two have one cell
pub record ReservesTogether (m n : ℕ) (which : ℕ → ℕ) (a : Memory) (plans : ℕ → Plan) : Type 0 where
  pub routes : (k : ℕ) → k < n → which k < m
  pub apart : (j k : ℕ) → j < n → k < n → j ≢ k → (a.routes (which j)).cell ≢ (a.routes (which k)).cell
  pub direction : ℕ → Direction
  pub freshness : ℕ → ℕ
  pub planned : (k : ℕ) → k < n
      → PlansHigher (a.routes (which k)) (direction k) (freshness k) a.image (plans k)

-- these routes reserve one after the other, and each plan is done before the next is made
abbrev pub reserve_each : List ℕ → List Deed
reserve_each [] = []
reserve_each (k ∷ ks) = reserves k ∷ (finishes ∷ reserve_each ks)

-- each of these is one of the n
abbrev pub AllAmong : ℕ → (ℕ → ℕ) → List ℕ → Type 0
AllAmong n which [] = Unit {0}
AllAmong n which (k ∷ ks) = ((i : ℕ) × ((i < n) × (which i ≡ k))) × AllAmong n which ks
