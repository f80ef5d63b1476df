-- What a start takes a disk for, and what it leaves of it
use Rattle.std.specs.Prelude.{◌≡◌, ◌⊎◌, ℕ, ◌+◌, None, Some, Option, List, [], length}
use Rattle.cut_disk.specs.State.{DiskState, Told}
use Rattle.cut_disk.specs.Images.{EachImage}
use Rattle.cut_disk.specs.Calls.{Rose, Runs}
use Rattle.cell_store.specs.declared.kinds.Kind.{Kind}
use Rattle.cell_store.specs.declared.kinds.Version.{Version}
use Rattle.cell_store.specs.declared.faults.Reread.TheVariants as reread
use Rattle.cell_store.specs.Reading.{StaysTold}
use Rattle.cell_store.specs.ReadOrder.{reads}
use Rattle.cell_store.specs.Store.{Stands}
use Rattle.cell_store.specs.Formats.{FreshOn, Formats, LeavesUnformed}
use Rattle.cell_store.specs.Moving.{StandsAsCounted, DamagedAsCounted, KeepsCounted, LeavesBelow, move_calls}
use Rattle.any_cells.specs.declared.looking.Found.TheVariants as found
use Rattle.any_cells.specs.Either.{layout, format_calls}
use Rattle.any_cells.specs.Looking.{IsFound}
use Rattle.any_cells.specs.Migrating.{Migrated, StandsInTwo}
use Rattle.slot_disk.specs.Cell.{FirstBadSlot}
use Rattle.freshness_routes.specs.Config.{Config}
use Rattle.bus_machine.specs.Node.{Kept, first_node}
use Rattle.secoc_node.specs.Cells.{CellsOf, IsKept, SlotsButNoBound}
use Rattle.bus_world.specs.declared.opening.OpenFault.{OpenFault}
use Rattle.bus_world.specs.declared.opening.OpenFault.TheVariants as open_fault
use Rattle.bus_world.specs.declared.start.Start.{Start}
use Rattle.bus_world.specs.declared.start.Start.TheVariants.{Format, Attach}

-- the cells of a node with this configuration, and the cells that a new one has
abbrev pub cells_in : Config → ℕ
cells_in config = 14 + length config.routes

abbrev pub new_cells : Config → List (List ℕ)
new_cells config = CellsOf config (first_node config).kept

-- the most calls of a disk until its node is open: a format and all reads; a look, a move of the store and all reads
abbrev pub start_calls : Start → Kind → Config → ℕ
start_calls Format kind config = format_calls kind (cells_in config) + reads kind (cells_in config)
start_calls Attach kind config = 2 + (move_calls kind (cells_in config) + reads kind (cells_in config))

-- ---- what a node keeps

-- the bytes x have a store of n cells of this kind, in this version or, for version 2, still in version 1
abbrev pub HasNodeStore : Kind → Version → ℕ → List ℕ → Type 0
HasNodeStore kind version n x = IsFound kind version n x found.Standing ⊎ IsFound kind version n x found.Older

-- A formatted disk is a new node's. So is an attached one if its bytes are blank. If they have the node's store, it is
-- that of the node whose cells the store stands for.
abbrev pub KeptAs : Start → Kind → Version → Config → List ℕ → Kept → Type 0
KeptAs Format kind version config x kept = kept ≡ (first_node config).kept
KeptAs Attach kind version config x kept =
    (IsFound kind version (cells_in config) x found.Blank × (kept ≡ (first_node config).kept))
    ⊎ (HasNodeStore kind version (cells_in config) x × StandsAsCounted kind (CellsOf config kept) x)

-- what a node keeps that is started over a disk with the bytes x
pub record KeptOn (start : Start) (kind : Kind) (version : Version) (config : Config) (x : List ℕ) (kept : Kept)
    : Type 0 where
  pub is_kept : IsKept config kept
  pub kept_as : KeptAs start kind version config x kept

-- ---- what an open node leaves of its disk

-- told bytes are as they were; or they were blank, and are a new node's; or they had the store in version 1, and it was
-- moved to version 2
abbrev pub TakenOver : Kind → Version → Config → Told → Option Told → Type 0
TakenOver kind version config t new =
    (new ≡ Some t)
    ⊎ ((IsFound kind version (cells_in config) t.bytes found.Blank
    × FreshOn (layout kind version) (new_cells config) t new)
    ⊎ (IsFound kind version (cells_in config) t.bytes found.Older × Migrated kind (cells_in config) t new))

abbrev pub LeavesOpened : Start → Kind → Version → Config → Option Told → Option Told → Type 0
LeavesOpened Format kind version config old new = Formats (layout kind version) (new_cells config) old new
LeavesOpened Attach kind version config old new = (t : Told) → old ≡ Some t → TakenOver kind version config t new

-- ---- what a start that is refused leaves of a disk

-- the count of faults is as it was, or it rose
abbrev pub SameOrRose : DiskState → DiskState → Type 0
SameOrRose before after = (after.faults ≡ before.faults) ⊎ Rose before.faults after.faults

-- the bytes had the store in version 1, and whatever a power cut leaves stands in version 2 for the cells that it stood
-- for
pub record MovedOver (kind : Kind) (version : Version) (n : ℕ) (t : Told) (new : Option Told) : Type 0 where
  pub older : IsFound kind version n t.bytes found.Older
  pub cells : List (List ℕ)
  pub stood : StandsAsCounted kind cells t.bytes
  pub images : EachImage new (StandsInTwo kind cells)

-- the count of faults rose. Bytes that stand as they should, or are foreign, are as they were. Those of a store in
-- version 1 still stand for its cells in the version that counts
pub record FailedOver (kind : Kind) (version : Version) (n : ℕ) (before after : DiskState) (t : Told) : Type 0 where
  pub rose : Rose before.faults after.faults
  pub standing : IsFound kind version n t.bytes found.Standing → after.told ≡ Some t
  pub foreign : IsFound kind version n t.bytes found.Foreign → after.told ≡ Some t
  pub older : IsFound kind version n t.bytes found.Older → KeepsCounted kind n before.told after.told

-- of told bytes that weren't to be formatted: bytes, loose marks and count are as they were; or they were blank, and
-- whatever a power cut leaves stands for a new node's cells; or they were moved; or the disk failed
abbrev pub LeftTaken : Kind → Version → Config → DiskState → DiskState → Told → Type 0
LeftTaken kind version config before after t =
    ((after.told ≡ Some t) × (after.faults ≡ before.faults))
    ⊎ ((IsFound kind version (cells_in config) t.bytes found.Blank
    × EachImage after.told (λ x. Stands (layout kind version) x (new_cells config)))
    ⊎ (MovedOver kind version (cells_in config) t after.told
    ⊎ FailedOver kind version (cells_in config) before after t))

-- Of a disk that is formatted: it is as it was, or whatever a power cut leaves of it stands for a new node's cells, or
-- its count of faults rose. Of one that is attached: the count is as it was or rose, and told bytes are left so.
abbrev pub LeftOver : Start → Kind → Version → Config → DiskState → DiskState → Type 0
LeftOver Format kind version config before after =
    (after ≡ before)
    ⊎ (EachImage after.told (λ x. Stands (layout kind version) x (new_cells config)) ⊎ Rose before.faults after.faults)
LeftOver Attach kind version config before after =
    SameOrRose before after × ((t : Told) → before.told ≡ Some t → LeftTaken kind version config before after t)

-- the disk failed while it was formatted: its count of faults rose within the calls of a format. Whatever a power cut
-- leaves of it, a failed format may leave
pub record FormatFailed (kind : Kind) (version : Version) (config : Config) (before after : DiskState) : Type 0 where
  pub rose : Rose before.faults after.faults
  pub runs : Runs [] (format_calls kind (cells_in config)) before after
  pub unformed : LeavesUnformed (layout kind version) (new_cells config) before.told after.told

-- the disk failed: blank bytes were formatted, or are what a failed format may leave. Of a store in version 1 all bytes
-- but those of version 2 are as they were
pub record TakingFailed (kind : Kind) (version : Version) (config : Config) (before after : DiskState) (t : Told)
    : Type 0 where
  pub failed : FailedOver kind version (cells_in config) before after t
  pub blank : IsFound kind version (cells_in config) t.bytes found.Blank
      → FreshOn (layout kind version) (new_cells config) t after.told
      ⊎ LeavesUnformed (layout kind version) (new_cells config) before.told after.told
  pub besides : IsFound kind version (cells_in config) t.bytes found.Older
      → LeavesBelow kind (cells_in config) before.told after.told

-- The same, byte by byte. A disk that is formatted is as it was, or it was formatted for a new node and written no
-- more, or its format failed. Told bytes that are attached are left as those of an open node, or the disk failed.
abbrev pub LeavesDisk : Start → Kind → Version → Config → DiskState → DiskState → Type 0
LeavesDisk Format kind version config before after =
    (after ≡ before)
    ⊎ (Formats (layout kind version) (new_cells config) before.told after.told
    ⊎ FormatFailed kind version config before after)
LeavesDisk Attach kind version config before after =
    (t : Told) → before.told ≡ Some t
    → (TakenOver kind version config t after.told × (after.faults ≡ before.faults))
    ⊎ TakingFailed kind version config before after t

-- told bytes that have the node's store as it is to stand, or something foreign, stay all along: nothing is written
-- first and taken back
abbrev pub StaysFound : Start → Kind → Version → Config → DiskState → DiskState → Type 0
StaysFound Format kind version config before after = Unit {0}
StaysFound Attach kind version config before after =
    (t : Told) → before.told ≡ Some t
    → IsFound kind version (cells_in config) t.bytes found.Standing
    ⊎ IsFound kind version (cells_in config) t.bytes found.Foreign
    → StaysTold before after

-- ---- why a node isn't opened

-- the store that counts in the bytes x stands for a list of n cells with this property
pub record StandsSo (kind : Kind) (n : ℕ) (x : List ℕ) (P : List (List ℕ) → Type 0) : Type 0 where
  pub cells : List (List ℕ)
  pub count : length cells ≡ n
  pub stands : StandsAsCounted kind cells x
  pub such : P cells

-- why bytes are no node's: they are foreign; or the store that counts is damaged, and this number says where first; or
-- the lowest of its cells that isn't a slot or a bound of the node is this one
abbrev pub NoNodes : Kind → Version → Config → List ℕ → OpenFault → Type 0
NoNodes kind version config x (open_fault.Store reread.DiskFailed) = ⊥
NoNodes kind version config x (open_fault.Store reread.NotFormatted) =
    IsFound kind version (cells_in config) x found.Foreign
NoNodes kind version config x (open_fault.Store (reread.Damaged i)) =
    HasNodeStore kind version (cells_in config) x × DamagedAsCounted kind (cells_in config) i x
NoNodes kind version config x (open_fault.BadSlot slot) =
    HasNodeStore kind version (cells_in config) x × StandsSo kind (cells_in config) x (λ cells. FirstBadSlot cells slot)
NoNodes kind version config x (open_fault.BadBound place) =
    HasNodeStore kind version (cells_in config) x
    × StandsSo kind (cells_in config) x (λ cells. SlotsButNoBound config.routes cells place)
NoNodes kind version config x open_fault.TooSmall = ⊥
NoNodes kind version config x open_fault.Memory = ⊥

-- so no node keeps anything that could be started over them
pub record NoNodeOn (kind : Kind) (version : Version) (config : Config) (x : List ℕ) (fault : OpenFault) : Type 0 where
  pub why : NoNodes kind version config x fault
  pub none : (kept : Kept) → KeptOn Attach kind version config x kept → ⊥

-- a disk that is formatted is refused for its bytes only if it doesn't tell them; one that is attached, if told bytes
-- are no node's
abbrev pub RefusedFor : Start → Kind → Version → Config → Option Told → OpenFault → Type 0
RefusedFor Format kind version config told fault = told ≡ None
RefusedFor Attach kind version config told fault =
    (t : Told) → told ≡ Some t → NoNodeOn kind version config t.bytes fault

-- the disk failed, or it is refused for its bytes, or there was no memory; there is room on it
abbrev pub OpenCause : Start → Kind → Version → Config → DiskState → DiskState → OpenFault → Type 0
OpenCause start kind version config before after (open_fault.Store reread.DiskFailed) = Rose before.faults after.faults
OpenCause start kind version config before after open_fault.TooSmall = ⊥
OpenCause start kind version config before after open_fault.Memory = Unit {0}
OpenCause start kind version config before after fault = RefusedFor start kind version config before.told fault

-- told bytes that had the store in version 1 were moved to version 2
abbrev pub MovesOlder : Kind → Version → Config → Option Told → Option Told → Type 0
MovesOlder kind version config old new = (t : Told) → old ≡ Some t
    → IsFound kind version (cells_in config) t.bytes found.Older → Migrated kind (cells_in config) t new

-- a store in version 1 is moved before its cells are looked at
abbrev pub MovedFirst : Kind → Version → Config → Option Told → Option Told → OpenFault → Type 0
MovedFirst kind version config old new (open_fault.BadSlot slot) = MovesOlder kind version config old new
MovedFirst kind version config old new (open_fault.BadBound place) = MovesOlder kind version config old new
MovedFirst kind version config old new fault = Unit {0}

-- a list of n cells of which this holds
abbrev pub SomeCells : ℕ → (List (List ℕ) → Type 0) → Type 0
SomeCells n P = (cells : List (List ℕ)) × (length cells ≡ n) × P cells

-- Of some list of as many cells this is the lowest that isn't a slot or a bound of the node. Over a disk that tells
-- nothing that says no more than that the number is one of a slot, or of a bound.
abbrev pub CellsAtFault : Config → OpenFault → Type 0
CellsAtFault config (open_fault.BadSlot slot) = SomeCells (cells_in config) (λ cells. FirstBadSlot cells slot)
CellsAtFault config (open_fault.BadBound place) =
    SomeCells (cells_in config) (λ cells. SlotsButNoBound config.routes cells place)
CellsAtFault config fault = Unit {0}

-- the count of faults rose if a refusal tells that the disk failed; else it is as it was
abbrev pub CountsRefusal : OpenFault → ℕ → ℕ → Type 0
CountsRefusal (open_fault.Store reread.DiskFailed) before after = Rose before after
CountsRefusal fault before after = after ≡ before
