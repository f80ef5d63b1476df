-- A unit over all its software, older and newer in any order: each comes up over what the device holds, grows the
-- store or doesn't, and lives.
use Rattle.std.specs.Prelude.{◌≡◌, ◌≢◌, ℕ, zero, suc, ◌+◌, ◌<◌, ◌≤◌, ◌⊎◌, Some, List, [], ◌∷◌, ◌++◌, length}
use Rattle.cell_store.specs.declared.kinds.Version.TheVariants.{One}
use Rattle.cell_store.specs.Layout.{twin_layout}
use Rattle.cell_store.specs.Twin.{twin_size, cell_at}
use Rattle.cell_store.specs.Store.{HasHeader}
use Rattle.freshness_routes.specs.declared.routes.Direction.{Direction}
use Rattle.freshness_store.specs.Bound.{direction_number, bound_cell}
use Rattle.store_plan.specs.declared.planning.Plan.{Plan}
use Rattle.store_plan.specs.Plans.{IsEmptyPlan, CutWithin, applied}
use Rattle.store_plan.specs.Growing.{IsErased, HasNoLiveCopy, NoneFrom}
use Rattle.store_plan.specs.Leaving.{LeavesPut}
use Rattle.rathonsi_c.specs.declared.route.RathonsiRoute.{RathonsiRoute}
use Rattle.rathonsi_c.specs.Growing.{SaysSize, PlansNumber, PlansCell, IsSpare}
use Rattle.rathonsi_c.specs.Images.{ImageBound}
use Rattle.rathonsi_c.specs.Lives.{Memory, Deed, Lives, SameRoute, OpensFilled, given_out, NeverRejoins}
use Rattle.rathonsi_c.specs.Routes.{InRanges}
use Rattle.rathonsi_c.specs.Stores.{RouteIdIsHeld}

-- All software of a unit has one table: route k has this Data ID, direction and cell, and this first bound. Older
-- software has the first routes of it.
pub record Table : Type 0 where
  pub route : ℕ → RathonsiRoute
  pub first : ℕ → ℕ

-- no two routes of the table have one cell
abbrev pub CellsApart : Table → Type 0
CellsApart table = (j k : ℕ) → j ≢ k → (table.route j).cell ≢ (table.route k).cell

-- `rathonsi_store_grow` for a route of the table, as some software fills it in
pub record GrowsBy (table : Table) (image : List ℕ) (old new : Plan) : Type 0 where
  pub which : ℕ
  pub filled : RathonsiRoute
  pub same : SameRoute (table.route which) filled
  pub cell : PlansCell filled (table.first which) image old new

-- Some software calls `rathonsi_store_mend` or `rathonsi_store_grow` over what the device holds, with OK. The plan is
-- done, or the power goes within it.
pub record GrowthStep (table : Table) (x y : List ℕ) : Type 0 where
  pub old : Plan
  pub plan : Plan
  pub planned : PlansNumber x old plan ⊎ GrowsBy table x old plan
  pub after : (y ≡ applied plan x) ⊎ CutWithin plan x y

-- so many such steps, one after the other: of one software, or of several with the power lost in between
abbrev pub GrowthSteps : Table → ℕ → List ℕ → List ℕ → Type 0
GrowthSteps table zero x z = z ≡ x
GrowthSteps table (suc steps) x z = (y : List ℕ) × (GrowthStep table x y × GrowthSteps table steps y z)

-- Software with n routes comes up over what the power left of the image, and what the device has after it. Growth
-- steps were made, its own and those of other software that tried to come up. In the end the header has the number of
-- cells that the cells say. So many are its image, and all its routes open.
pub record SoftwareComesUp (table : Table) (n : ℕ) (a : Memory) (room : List ℕ) (b : Memory) (behind : List ℕ) : Type 0 where
  pub left : List ℕ
  pub cut : LeavesPut a.plan a.image left
  pub steps : ℕ
  pub grew : GrowthSteps table steps (left ++ room) (b.image ++ behind)
  pub count : ℕ
  pub told : SaysSize (b.image ++ behind) count
  pub mended : HasHeader (twin_layout One) count (b.image ++ behind)
  pub size : length b.image ≡ twin_size count
  pub empty : IsEmptyPlan b.plan
  pub opened : (k : ℕ) → k < n → OpensFilled (table.route k) b.image (b.routes k)

-- software with so many routes, and what it does in its lives
pub record Software : Type 0 where
  pub routes : ℕ
  pub deeds : List Deed

-- one software after the other, each as often as one likes: updates and roll-backs
abbrev pub AllSoftware : Table → List Software → Memory → List ℕ → Memory → List ℕ → Type 0
AllSoftware table [] a room c end = (c ≡ a) × (end ≡ room)
AllSoftware table (s ∷ rest) a room c end =
    (b : Memory) × ((behind : List ℕ) × (SoftwareComesUp table s.routes a room b behind
    × ((d : Memory) × (Lives s.routes s.deeds b d × AllSoftware table rest d behind c end))))

-- the freshness of all PDUs that route k sent, or accepted, by all software, in order
abbrev pub given_by_all : ℕ → List Software → List ℕ
given_by_all k [] = []
given_by_all k (s ∷ rest) = given_out k s.deeds ++ given_by_all k rest

-- the route rejoins in no software
abbrev pub NoneRejoins : ℕ → List Software → Type 0
NoneRejoins k [] = Unit {0}
NoneRejoins k (s ∷ rest) = NeverRejoins k s.deeds × NoneRejoins k rest

-- the image keeps a bound of the route that is at least this
pub record KeepsAtLeast (low : ℕ) (r : RathonsiRoute) (image : List ℕ) : Type 0 where
  pub direction : Direction
  pub ranges : InRanges r direction
  pub bound : ℕ
  pub kept : ImageBound image r.cell r.data_id direction bound
  pub least : low ≤ bound

-- The production line erased the room of all cells up to cell `top`. The cells say that there are n. No copy at the
-- place of cell n is live: a growth may have been cut there. The places after it, up to `top`, are erased.
pub record StoreWithRoom (n top : ℕ) (x : List ℕ) : Type 0 where
  pub told : SaysSize x n
  pub least : n ≤ top
  pub most : top ≤ 270
  pub room : twin_size (top + 1) ≤ length x
  pub free : HasNoLiveCopy x n
  pub erased : (j : ℕ) → n < j → j ≤ top → IsErased x j
  pub later : NoneFrom x n

-- no cell of n but that of the route keeps a bound of its Data ID and direction, and the cell, if it is one of n, is
-- nobody's or keeps one
pub record HasOwnCell (r : RathonsiRoute) (n : ℕ) (image : List ℕ) : Type 0 where
  pub alone : ¬ RouteIdIsHeld r image n
  pub own : r.cell < n → IsSpare image r.cell
      ⊎ ((direction : Direction) × (InRanges r direction
      × ((kept : ℕ) × ImageBound image r.cell r.data_id direction kept)))

-- cell j of y holds the first bound of a route of the table
pub record HasFirstBound (table : Table) (y : List ℕ) (j : ℕ) : Type 0 where
  pub which : ℕ
  pub at : (table.route which).cell ≡ j
  pub direction : Direction
  pub direction_is : (table.route which).direction ≡ direction_number direction
  pub is : cell_at y j ≡ Some (bound_cell (table.route which).data_id direction (table.first which))
