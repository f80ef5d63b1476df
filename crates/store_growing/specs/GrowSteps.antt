-- What the steps of a growth leave of a disk
use Rattle.std.specs.Prelude.{◌≡◌, ℕ, ◌+◌, ◌<◌, false, List, length, drop, Option, Some, None}
use Rattle.cut_disk.specs.State.{DiskState}
use Rattle.cut_disk.specs.Images.{firm, EachImage}
use Rattle.cut_disk.specs.Calls.{Rose, AsBefore}
use Rattle.cell_store.specs.declared.kinds.Kind.TheVariants.{Twin}
use Rattle.cell_store.specs.declared.kinds.Layout.{Layout}
use Rattle.cell_store.specs.declared.kinds.Version.TheVariants.{One}
use Rattle.cell_store.specs.Layout.{SameOutside, part, twin_layout}
use Rattle.cell_store.specs.Twin.{first_at, is_live}
use Rattle.cell_store.specs.Writing.{Unfinished}
use Rattle.freshness_routes.specs.declared.routes.Route.{Route}
use Rattle.store_plan.specs.Growing.{count_at, with_number}
use Rattle.store_growing.specs.declared.faults.GrowFault.{GrowFault}
use Rattle.store_growing.specs.declared.faults.GrowFault.TheVariants.{DiskFailed, NotFormatted, OtherStore}
use Rattle.store_growing.specs.declared.headers.StoreHeader.{StoreHeader}
use Rattle.store_growing.specs.StoreHeaders.{HasVersionTwo, HasFirstHead, HeaderStands}
use Rattle.store_growing.specs.RouteCells.{route_cell}
use Rattle.store_growing.specs.GrowingStores.{OfBytes, IsOther, first_copy, with_routes, CutsCells, LeftOf}

-- these bytes are those that the disk tells, if none of them is loose
abbrev pub Sees : DiskState → List ℕ → Type 0
Sees disk image = OfBytes disk (λ x. image ≡ x)

-- a bus wants a twin store of version 1, and the header of one stands in these bytes of the disk; none of version 2
pub record FitsWanted (wanted : Layout) (image : List ℕ) (old : DiskState) : Type 0 where
  pub wants : wanted ≡ twin_layout One
  pub version : OfBytes old (λ x. ¬ HasVersionTwo x)
  pub head : HasFirstHead Twin image

-- the header of a store stands that the bus wants, and that can be grown
abbrev pub TakesHeader : Layout → Option StoreHeader → Type 0
TakesHeader wanted None = ⊥
TakesHeader wanted (Some there) = (there.layout ≡ twin_layout One) × (wanted ≡ twin_layout One)

-- or none stands, or another
abbrev pub RefusesHeader : Layout → Option StoreHeader → GrowFault → Type 0
RefusesHeader wanted there NotFormatted = there ≡ None
RefusesHeader wanted there (OtherStore header) = (there ≡ Some header) × IsOther wanted header
RefusesHeader wanted there fault = ⊥

-- why the bytes weren't read, or why they won't be looked at: another store stands there, or none does
abbrev pub NotSeen : Layout → DiskState → DiskState → GrowFault → Type 0
NotSeen wanted old new DiskFailed = Rose old.faults new.faults × (new.told ≡ old.told)
NotSeen wanted old new fault = AsBefore 2 old new
    × OfBytes old (λ x. (there : Option StoreHeader) × HeaderStands x there × RefusesHeader wanted there fault)

-- the gates of the first copies of so many cells, from this one on, aren't live
abbrev pub AreClosed : ℕ → ℕ → List ℕ → Type 0
AreClosed cell many x = (k : ℕ) → k < many → is_live (part (first_at (cell + k)) 34 x) ≡ false

-- none of the bytes was loose, and these came of them, none loose
abbrev pub MakesOfBytes : (List ℕ → List ℕ) → DiskState → DiskState → Type 0
MakesOfBytes makes old new = OfBytes old (λ x. new.told ≡ Some (firm (makes x)))

-- whatever the power leaves of a cell that is written, if its gate wasn't live
abbrev pub CutsCellOnDisk : ℕ → Route → DiskState → DiskState → Type 0
CutsCellOnDisk cell route old new =
    OfBytes old (λ x. is_live (part (first_at cell) 34 x) ≡ false
    → EachImage new.told (Unfinished 33 (first_at cell) (first_copy route) x))

-- the same of all cells
abbrev pub CutsCellsOnDisk : ℕ → List Route → DiskState → DiskState → Type 0
CutsCellsOnDisk cell routes old new =
    OfBytes old (λ x. AreClosed cell (length routes) x → EachImage new.told (CutsCells cell routes x))

-- and of the number
abbrev pub CutsNumberOnDisk : DiskState → DiskState → Type 0
CutsNumberOnDisk old new = OfBytes old (λ x. EachImage new.told (SameOutside count_at 2 x))

-- the cells of the routes from a place on, and the number, are written to the bytes that were looked at
abbrev pub WritesLacking : List ℕ → List Route → ℕ → DiskState → DiskState → Type 0
WritesLacking image routes there old new =
    OfBytes old (λ x. image ≡ x
    → new.told ≡ Some (firm (with_number (route_cell (length routes)) (with_routes routes there x))))

-- or the power goes meanwhile, if those cells weren't live
abbrev pub CutsLacking : List ℕ → List Route → ℕ → DiskState → DiskState → Type 0
CutsLacking image routes there old new =
    OfBytes old (λ x. image ≡ x → AreClosed (route_cell there) (length (drop there routes)) x
    → EachImage new.told (LeftOf routes there x))
