-- What `grow_store` makes of a disk: a cell at the end of the store for each route that the bus has more. All of them
-- are written before the number of cells in the header. A cell that the header counts is never written.
use Rattle.std.specs.Prelude.{◌≡◌, ◌⊎◌, ℕ, ◌+◌, ◌<◌, ◌≤◌, List, [], ◌∷◌, length, drop, Some, None}
use Rattle.cut_disk.specs.State.{DiskState}
use Rattle.cut_disk.specs.Images.{splice, firm, EachImage}
use Rattle.cut_disk.specs.Calls.{Rose, AsBefore}
use Rattle.cell_store.specs.declared.kinds.Kind.TheVariants.{Twin}
use Rattle.cell_store.specs.declared.kinds.Layout.{Layout}
use Rattle.cell_store.specs.declared.kinds.Version.TheVariants.{One}
use Rattle.cell_store.specs.Layout.{SameOutside, twin_layout}
use Rattle.cell_store.specs.Twin.{twin_size, first_at, live_copy}
use Rattle.cell_store.specs.Writing.{Unfinished}
use Rattle.freshness_routes.specs.declared.routes.Route.{Route}
use Rattle.store_plan.specs.Growing.{count_at, with_number}
use Rattle.store_growing.specs.declared.faults.GrowFault.{GrowFault}
use Rattle.store_growing.specs.declared.faults.GrowFault.TheVariants.{DiskFailed, NotFormatted, TooSmall, BadBound}
use Rattle.store_growing.specs.declared.faults.GrowFault.TheVariants.{OtherStore, Damaged, BadSlot, Memory}
use Rattle.store_growing.specs.declared.headers.StoreHeader.{StoreHeader}
use Rattle.store_growing.specs.StoreHeaders.{HasVersionTwo, HasFirstHead, HeaderStands}
use Rattle.store_growing.specs.RouteCells.{route_cell, first_bound, CanGrow, RefusesBytes}

-- the first copy of a route's cell, whole
abbrev pub first_copy : Route → List ℕ
first_copy route = live_copy 0 (first_bound route)

-- x with the first copy of this cell written
abbrev pub with_cell : ℕ → Route → List ℕ → List ℕ
with_cell cell route x = splice (first_at cell) (first_copy route) x

-- x with those of the cells of these routes, the first of this number
abbrev pub with_cells : ℕ → List Route → List ℕ → List ℕ
with_cells cell [] x = x
with_cells cell (route ∷ rest) x = with_cells (1 + cell) rest (with_cell cell route x)

-- x with the cells of the routes from a place on
abbrev pub with_routes : List Route → ℕ → List ℕ → List ℕ
with_routes routes count x = with_cells (route_cell count) (drop count routes) x

-- what the power leaves that goes while these cells are written: the first of them are whole, and the next one has
-- anything behind a gate that isn't live, or is whole, too
pub data CutsCells : ℕ → List Route → List ℕ → List ℕ → Type 0 where
  within : (cell : ℕ) (route : Route) (rest : List Route) (x y : List ℕ)
      → Unfinished 33 (first_at cell) (first_copy route) x y → CutsCells cell (route ∷ rest) x y
  later : (cell : ℕ) (route : Route) (rest : List Route) (x y : List ℕ)
      → CutsCells (1 + cell) rest (with_cell cell route x) y → CutsCells cell (route ∷ rest) x y

-- the power goes while the cells of the routes from a place on are written, or all of them are, and it goes while the
-- number is
abbrev pub LeftOf : List Route → ℕ → List ℕ → List ℕ → Type 0
LeftOf routes count x y =
    CutsCells (route_cell count) (drop count routes) x y ⊎ SameOutside count_at 2 (with_routes routes count x) y

-- this holds of what the disk tells, if none of its bytes is loose
abbrev pub OfBytes : DiskState → (List ℕ → Type 0) → Type 0
OfBytes disk P = (x : List ℕ) → disk.told ≡ Some (firm x) → P x

-- bytes x became z: the cells of the routes that had none are written, and the header counts the cells of all
pub record GrownTo (routes : List Route) (x z : List ℕ) : Type 0 where
  pub version : ¬ HasVersionTwo x
  pub count : ℕ
  pub could : CanGrow routes x count
  pub is : z ≡ with_number (route_cell (length routes)) (with_routes routes count x)

-- or the power went meanwhile
pub record GrownInPart (routes : List Route) (x y : List ℕ) : Type 0 where
  pub version : ¬ HasVersionTwo x
  pub count : ℕ
  pub could : CanGrow routes x count
  pub left : LeftOf routes count x y

-- the bytes of a disk, if none was loose, got the cells that were lacking
abbrev pub GrowsStore : List Route → DiskState → DiskState → Type 0
GrowsStore routes old new = OfBytes old (λ x. (z : List ℕ) × GrownTo routes x z × (new.told ≡ Some (firm z)))

-- a call of the disk failed: the bytes are as they were, or some of the cells were added, whatever the power leaves
abbrev pub CutsStore : List Route → DiskState → DiskState → Type 0
CutsStore routes old new = (new.told ≡ old.told) ⊎ OfBytes old (λ x. EachImage new.told (GrownInPart routes x))

-- the disk has room for a cell for each route, and for one more
abbrev pub HasRouteRoom : List Route → DiskState → Type 0
HasRouteRoom routes disk = twin_size (route_cell (length routes) + 1) ≤ disk.size

-- The store on a disk can be grown to a cell for each route: the bus wants a twin store of version 1, there is room,
-- and the bytes that the disk tells, none of them loose, have no store of version 2, but one that can get the cells.
pub record CanBeGrown (wanted : Layout) (routes : List Route) (old : DiskState) : Type 0 where
  pub wants : wanted ≡ twin_layout One
  pub room : HasRouteRoom routes old
  pub bytes : List ℕ
  pub told : old.told ≡ Some (firm bytes)
  pub version : ¬ HasVersionTwo bytes
  pub count : ℕ
  pub could : CanGrow routes bytes count

-- the store of this header is no twin store of version 1, or the bus wants another
abbrev pub IsOther : Layout → StoreHeader → Type 0
IsOther wanted there = ¬ ((there.layout ≡ twin_layout One) × (wanted ≡ twin_layout One))

-- Why it can't, by the first cause: there is no room; else another store stands there, or none does; else what the
-- bytes say of the cells. The other two faults have no such cause.
pub data CannotBeGrown (wanted : Layout) (routes : List Route) (old : DiskState) : GrowFault → Type 0 where
  no_room : old.size < twin_size (route_cell (length routes) + 1) → CannotBeGrown wanted routes old TooSmall
  other_store : (x : List ℕ) (there : StoreHeader) → HasRouteRoom routes old → old.told ≡ Some (firm x)
      → HeaderStands x (Some there) → IsOther wanted there → CannotBeGrown wanted routes old (OtherStore there)
  no_store : (x : List ℕ) → HasRouteRoom routes old → old.told ≡ Some (firm x) → HeaderStands x None
      → CannotBeGrown wanted routes old NotFormatted
  by_bytes : (x : List ℕ) (fault : GrowFault) → HasRouteRoom routes old → old.told ≡ Some (firm x)
      → wanted ≡ twin_layout One → ¬ HasVersionTwo x → HasFirstHead Twin x → RefusesBytes routes x fault
      → CannotBeGrown wanted routes old fault

-- the disk was only read; this is the first cause, if none of its bytes is loose
abbrev pub RefusesGrowth : Layout → List Route → DiskState → DiskState → GrowFault → Type 0
RefusesGrowth wanted routes old new fault =
    AsBefore 2 old new × OfBytes old (λ x. CannotBeGrown wanted routes old fault)

-- Why a store doesn't get the cells. Nothing was written, unless a call of the disk failed.
abbrev pub NotGrown : Layout → List Route → DiskState → DiskState → GrowFault → Type 0
NotGrown wanted routes old new TooSmall = AsBefore 2 old new
    × ((old.size < twin_size (route_cell (length routes) + 1))
    ⊎ OfBytes old (λ x. CannotBeGrown wanted routes old TooSmall))
NotGrown wanted routes old new (OtherStore there) = RefusesGrowth wanted routes old new (OtherStore there)
NotGrown wanted routes old new NotFormatted = RefusesGrowth wanted routes old new NotFormatted
NotGrown wanted routes old new (Damaged cell) = RefusesGrowth wanted routes old new (Damaged cell)
NotGrown wanted routes old new (BadSlot cell) = RefusesGrowth wanted routes old new (BadSlot cell)
NotGrown wanted routes old new (BadBound cell) = RefusesGrowth wanted routes old new (BadBound cell)
NotGrown wanted routes old new Memory = AsBefore 2 old new
NotGrown wanted routes old new DiskFailed = Rose old.faults new.faults × CutsStore routes old new
