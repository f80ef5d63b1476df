-- All lives of a caller that keeps its duties: what it does with a store of several routes and slots, one after the
-- other, and what that makes of its memory. Each of its deeds is a call that answers OK, or the power goes.
use Rattle.std.specs.Prelude.{◌≡◌, ◌≢◌, ℕ, ◌<◌, ◌≤◌, ◌==◌, ◌⊎◌, if◌then◌else◌, Bool, true, false, List, [], ◌∷◌}
use Rattle.key_slots.specs.declared.memory.Flags.{Flags}
use Rattle.key_slots.specs.declared.memory.Slot.TheVariants.{Filled}
use Rattle.slot_disk.specs.Cell.{slot_cell}
use Rattle.freshness_routes.specs.declared.routes.Direction.{Direction}
use Rattle.freshness_routes.specs.declared.routes.Direction.TheVariants.{Sends, Receives}
use Rattle.memory_update.specs.Loading.{slot_of}
use Rattle.memory_update.specs.declared.messages.Request.{Request}
use Rattle.memory_update.specs.declared.messages.Update.{Update}
use Rattle.store_plan.specs.declared.planning.Plan.{Plan}
use Rattle.store_plan.specs.Plans.{PlansPut, IsEmptyPlan, applied}
use Rattle.store_plan.specs.Leaving.{LeavesPut}
use Rattle.rathonsi_c.specs.declared.route.RathonsiRoute.{RathonsiRoute}
use Rattle.rathonsi_c.specs.Images.{ImageBound, ImageSlot}
use Rattle.rathonsi_c.specs.Routes.{InRanges, IsOpened, Opens, RouteAdvances, Reserves}
use Rattle.rathonsi_c.specs.Slots.{LoadsSlot}
use Rattle.rathonsi_c.specs.Rejoining.{Rejoins}

-- what the caller holds: the image, the plan, and its routes by their numbers
pub record Memory : Type 0 where
  pub image : List ℕ
  pub plan : Plan
  pub routes : ℕ → RathonsiRoute

-- What happens. A PDU with this freshness is sent by a route, or accepted, or its freshness is given to another module,
-- or accepted from it, or becomes a nonce; an answer of the other side that tells this counter is taken by a route; a
-- route is opened again; a field of it that doesn't say which route it is, nor its counter, nor opens it, is set; a bound
-- is planned for a route, or an update for a slot; a plan is dropped before a write of it was begun; a plan is done, and
-- the caller says so; the power comes back, whenever it went. A receiver's route rejoins: its counter becomes this one,
-- also a lower one.
pub data Deed : Type 0 where
  sends : (route : ℕ) → (freshness : ℕ) → Deed
  accepts : (route : ℕ) → (freshness : ℕ) → Deed
  takes : (route : ℕ) → (counter : ℕ) → Deed
  rejoins : (route : ℕ) → (counter : ℕ) → Deed
  opens : (route : ℕ) → Deed
  sets : (route : ℕ) → Deed
  reserves : (route : ℕ) → Deed
  loads : (slot : ℕ) → Deed
  drops : Deed
  finishes : Deed
  powers_up : Deed

abbrev pub SameRoutes : Memory → Memory → Type 0
SameRoutes a b = (k : ℕ) → b.routes k ≡ a.routes k

-- all but route k, one of n, is as before
pub record ChangesRoute (n k : ℕ) (a b : Memory) : Type 0 where
  pub which : k < n
  pub others : (j : ℕ) → j ≢ k → b.routes j ≡ a.routes j
  pub image : b.image ≡ a.image
  pub plan : b.plan ≡ a.plan

-- two structs are of one route: one Data ID in one direction, whose bound is in one cell
pub record SameRoute (r s : RathonsiRoute) : Type 0 where
  pub cell : s.cell ≡ r.cell
  pub data_id : s.data_id ≡ r.data_id
  pub direction : s.direction ≡ r.direction

-- `rathonsi_route_open` of the route, filled in anew: key, window, reserve and boot may be others than they were
pub record OpensFilled (r : RathonsiRoute) (image : List ℕ) (opened : RathonsiRoute) : Type 0 where
  pub filled : RathonsiRoute
  pub same : SameRoute r filled
  pub is_opened : Opens filled image opened

-- `rathonsi_route_send` or `rathonsi_route_receive` on route k, in one step or in two; or `rathonsi_sync_take`; or
-- `rathonsi_freshness_next` or `rathonsi_freshness_accept`; or `rathonsi_sync_nonce`
pub record GivesOut (direction : Direction) (n k freshness : ℕ) (a b : Memory) : Type 0 where
  pub changes : ChangesRoute n k a b
  pub advances : RouteAdvances direction (a.routes k) a.image freshness (b.routes k)

-- `rathonsi_sync_rejoin` on route k, in one step or in two
pub record RejoinsRoute (n k counter : ℕ) (a b : Memory) : Type 0 where
  pub changes : ChangesRoute n k a b
  pub rejoined : Rejoins (a.routes k) a.image counter (b.routes k)

-- `rathonsi_route_open` of route k, within a life
pub record OpensRoute (n k : ℕ) (a b : Memory) : Type 0 where
  pub changes : ChangesRoute n k a b
  pub opened : OpensFilled (a.routes k) a.image (b.routes k)

-- key, window, reserve or boot of route k is another now, within its range; or an opening that failed closed it
pub record SetsFields (n k : ℕ) (a b : Memory) : Type 0 where
  pub changes : ChangesRoute n k a b
  pub same : SameRoute (a.routes k) (b.routes k)
  pub counter : (b.routes k).counter ≡ (a.routes k).counter
  pub opened : IsOpened (b.routes k) → IsOpened (a.routes k)
  pub mark : IsOpened (b.routes k) → (b.routes k).opened ≡ (a.routes k).opened
  pub direction : Direction
  pub ranges : InRanges (b.routes k) direction

-- `rathonsi_route_reserve` or `rathonsi_route_advance` on route k
pub record PlansBound (n k : ℕ) (a b : Memory) : Type 0 where
  pub which : k < n
  pub freshness : ℕ
  pub reserved : Reserves (a.routes k) a.image freshness a.plan b.plan
  pub image : b.image ≡ a.image
  pub routes : SameRoutes a b

-- `rathonsi_slot_load` of an update of this slot
pub record PlansUpdate (slot : ℕ) (a b : Memory) : Type 0 where
  pub uid : List ℕ
  pub booted : ℕ
  pub request : Request
  pub loaded : LoadsSlot uid booted request a.image a.plan b.plan
  pub slot_is : loaded.update.id ≡ slot
  pub image : b.image ≡ a.image
  pub routes : SameRoutes a b

pub record DropsPlan (a b : Memory) : Type 0 where
  pub empty : IsEmptyPlan b.plan
  pub image : b.image ≡ a.image
  pub routes : SameRoutes a b

-- what `rathonsi_store_done` makes of an image and a plan
pub record PlanDone (image : List ℕ) (plan : Plan) (new_image : List ℕ) (new_plan : Plan) : Type 0 where
  pub image_is : new_image ≡ applied plan image
  pub empty : IsEmptyPlan new_plan

pub record FinishesPlan (a b : Memory) : Type 0 where
  pub done : PlanDone a.image a.plan b.image b.plan
  pub routes : SameRoutes a b

-- The image is what the power left that went within the plan: on a device of bytes, or as a device that keeps cells
-- makes it anew. The plan is empty, and every route was filled in and opened.
pub record PowerBack (n : ℕ) (a b : Memory) : Type 0 where
  pub left : LeavesPut a.plan a.image b.image
  pub empty : IsEmptyPlan b.plan
  pub opened : (k : ℕ) → k < n → OpensFilled (a.routes k) b.image (b.routes k)

-- one deed of a caller with n routes
abbrev pub DoesDeed : ℕ → Deed → Memory → Memory → Type 0
DoesDeed n (sends k freshness) a b = GivesOut Sends n k freshness a b
DoesDeed n (accepts k freshness) a b = GivesOut Receives n k freshness a b
DoesDeed n (takes k counter) a b = (direction : Direction) × GivesOut direction n k counter a b
DoesDeed n (rejoins k counter) a b = RejoinsRoute n k counter a b
DoesDeed n (opens k) a b = OpensRoute n k a b
DoesDeed n (sets k) a b = SetsFields n k a b
DoesDeed n (reserves k) a b = PlansBound n k a b
DoesDeed n (loads slot) a b = PlansUpdate slot a b
DoesDeed n drops a b = DropsPlan a b
DoesDeed n finishes a b = FinishesPlan a b
DoesDeed n powers_up a b = PowerBack n a b

-- one after the other
abbrev pub Lives : ℕ → List Deed → Memory → Memory → Type 0
Lives n [] a c = c ≡ a
Lives n (deed ∷ deeds) a c = (b : Memory) × (DoesDeed n deed a b × Lives n deeds b c)

-- no two of n routes have one cell, and no two have one Data ID and direction
pub record Apart (n : ℕ) (routes : ℕ → RathonsiRoute) : Type 0 where
  pub cells : (j k : ℕ) → j < n → k < n → j ≢ k → (routes j).cell ≢ (routes k).cell
  pub ids : (j k : ℕ) → j < n → k < n → j ≢ k
      → (routes j).data_id ≡ (routes k).data_id → (routes j).direction ≢ (routes k).direction

-- a caller whose n routes were each filled in and opened over its image by `rathonsi_route_open`, with nothing planned
pub record PoweredUp (n : ℕ) (a : Memory) : Type 0 where
  pub empty : IsEmptyPlan a.plan
  pub apart : Apart n a.routes
  pub opened : (k : ℕ) → k < n → (filled : RathonsiRoute) × Opens filled a.image (a.routes k)

-- the freshness of all PDUs that route k sent, or accepted, in order
abbrev pub given_out : ℕ → List Deed → List ℕ
given_out k [] = []
given_out k (sends j freshness ∷ deeds) = if j == k then freshness ∷ given_out k deeds else given_out k deeds
given_out k (accepts j freshness ∷ deeds) = if j == k then freshness ∷ given_out k deeds else given_out k deeds
given_out k (takes j counter ∷ deeds) = given_out k deeds
given_out k (rejoins j counter ∷ deeds) = given_out k deeds
given_out k (opens j ∷ deeds) = given_out k deeds
given_out k (sets j ∷ deeds) = given_out k deeds
given_out k (reserves j ∷ deeds) = given_out k deeds
given_out k (loads slot ∷ deeds) = given_out k deeds
given_out k (drops ∷ deeds) = given_out k deeds
given_out k (finishes ∷ deeds) = given_out k deeds
given_out k (powers_up ∷ deeds) = given_out k deeds

-- the deed is a rejoin of this route
abbrev pub rejoins_it : ℕ → Deed → Bool
rejoins_it k (sends j freshness) = false
rejoins_it k (accepts j freshness) = false
rejoins_it k (takes j counter) = false
rejoins_it k (rejoins j counter) = j == k
rejoins_it k (opens j) = false
rejoins_it k (sets j) = false
rejoins_it k (reserves j) = false
rejoins_it k (loads slot) = false
rejoins_it k drops = false
rejoins_it k finishes = false
rejoins_it k powers_up = false

-- the route doesn't rejoin
abbrev pub NeverRejoins : ℕ → List Deed → Type 0
NeverRejoins k [] = Unit {0}
NeverRejoins k (deed ∷ deeds) = (rejoins_it k deed ≡ false) × NeverRejoins k deeds

-- each number is above the one before it, the first above `low`, and none is above `high`
abbrev pub RisesTo : ℕ → List ℕ → ℕ → Type 0
RisesTo low [] high = low ≤ high
RisesTo low (x ∷ xs) high = (low < x) × RisesTo x xs high

-- the image keeps a bound of the route that is at least its counter
pub record CounterCovered (r : RathonsiRoute) (image : List ℕ) : Type 0 where
  pub direction : Direction
  pub ranges : InRanges r direction
  pub bound : ℕ
  pub kept : ImageBound image r.cell r.data_id direction bound
  pub covers : r.counter ≤ bound

-- ---- keys

-- no update of this slot is planned: nothing is, or another cell
abbrev pub NoUpdatePlanned : ℕ → Memory → Type 0
NoUpdatePlanned slot a =
    IsEmptyPlan a.plan ⊎ ((place : ℕ) × ((new : List ℕ) × ((place ≢ slot) × PlansPut a.plan a.image place new)))

-- an update of this slot is planned: `rathonsi_slot_load` planned it over this image
pub record UpdatePlanned (slot : ℕ) (a : Memory) : Type 0 where
  pub uid : List ℕ
  pub booted : ℕ
  pub request : Request
  pub old : Plan
  pub loaded : LoadsSlot uid booted request a.image old a.plan
  pub slot_is : loaded.update.id ≡ slot

-- whether an update of this slot is planned, as `planned` says
abbrev pub PlannedAs : ℕ → Bool → Memory → Type 0
PlannedAs slot false a = NoUpdatePlanned slot a
PlannedAs slot true a = UpdatePlanned slot a

-- whether an update of this slot is planned after a deed; `planned` says whether one was before it
abbrev pub planned_behind : ℕ → Bool → Deed → Bool
planned_behind slot planned (sends k freshness) = planned
planned_behind slot planned (accepts k freshness) = planned
planned_behind slot planned (takes k counter) = planned
planned_behind slot planned (rejoins k counter) = planned
planned_behind slot planned (opens k) = planned
planned_behind slot planned (sets k) = planned
planned_behind slot planned (reserves k) = planned
planned_behind slot planned (loads other) = other == slot
planned_behind slot planned drops = false
planned_behind slot planned finishes = false
planned_behind slot planned powers_up = false

abbrev pub planned_after : ℕ → Bool → List Deed → Bool
planned_after slot planned [] = planned
planned_after slot planned (deed ∷ deeds) = planned_after slot (planned_behind slot planned deed) deeds

-- a deed may begin what is planned if a plan is done, or the power went
abbrev pub BeginsNone : Bool → Deed → Type 0
BeginsNone planned (sends k freshness) = Unit {0}
BeginsNone planned (accepts k freshness) = Unit {0}
BeginsNone planned (takes k counter) = Unit {0}
BeginsNone planned (rejoins k counter) = Unit {0}
BeginsNone planned (opens k) = Unit {0}
BeginsNone planned (sets k) = Unit {0}
BeginsNone planned (reserves k) = Unit {0}
BeginsNone planned (loads other) = Unit {0}
BeginsNone planned drops = Unit {0}
BeginsNone planned finishes = planned ≡ false
BeginsNone planned powers_up = planned ≡ false

-- no update of this slot was done or begun: none was planned, or it was dropped before a plan was done or the power
-- went
abbrev pub NoneBegun : ℕ → Bool → List Deed → Type 0
NoneBegun slot planned [] = Unit {0}
NoneBegun slot planned (deed ∷ deeds) =
    BeginsNone planned deed × NoneBegun slot (planned_behind slot planned deed) deeds

-- the update of this slot that is planned is the one that the image holds
pub record UpdateDone (slot : ℕ) (a : Memory) (image : List ℕ) : Type 0 where
  pub update : Update
  pub plans : PlansPut a.plan a.image slot (slot_cell (slot_of update))
  pub held : ImageSlot image slot (slot_of update)

-- the image keeps a key in this slot
pub record SlotFilled (image : List ℕ) (slot : ℕ) : Type 0 where
  pub key : List ℕ
  pub counter : ℕ
  pub flags : Flags
  pub held : ImageSlot image slot (Filled key counter flags)
