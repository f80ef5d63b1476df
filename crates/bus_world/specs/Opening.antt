-- How a node is opened over the store that stands on its disk, and over one that is moved first
use Rattle.std.specs.Prelude.{◌≡◌, ◌⊎◌, ℕ, ◌+◌, Option, Some, List, [], length}
use Rattle.cut_disk.specs.State.{DiskState, Told}
use Rattle.cut_disk.specs.Images.{firm}
use Rattle.cut_disk.specs.Calls.{Rose, Runs, Grows}
use Rattle.cell_store.specs.declared.kinds.Kind.{Kind}
use Rattle.cell_store.specs.declared.kinds.Version.{Version}
use Rattle.cell_store.specs.declared.kinds.Version.TheVariants.{One, Two}
use Rattle.cell_store.specs.declared.kinds.Layout.{Layout}
use Rattle.cell_store.specs.declared.faults.Reread.TheVariants as reread
use Rattle.cell_store.specs.declared.faults.StoreFault.{StoreFault}
use Rattle.cell_store.specs.declared.faults.StoreFault.TheVariants as store
use Rattle.cell_store.specs.Reading.{StaysTold}
use Rattle.cell_store.specs.ReadOrder.{reads}
use Rattle.cell_store.specs.Store.{HasHeader, Stands, FirstDamaged}
use Rattle.cell_store.specs.Moving.{StandsAsCounted, DamagedAsCounted, KeepsCounted, LeavesBelow, move_calls}
use Rattle.any_cells.specs.Either.{layout}
use Rattle.any_cells.specs.Migrating.{Migrated, Migrates}
use Rattle.slot_disk.specs.Cell.{FirstBadSlot}
use Rattle.freshness_routes.specs.Config.{Config}
use Rattle.bus_machine.specs.Node.{powered}
use Rattle.bus_machine.specs.Sound.{Sound}
use Rattle.secoc_node.specs.declared.faults.AttachFault.{AttachFault}
use Rattle.secoc_node.specs.declared.faults.AttachFault.TheVariants as cells
use Rattle.secoc_node.specs.Cells.{CellsOf, SlotsButNoBound}
use Rattle.secoc_node.specs.State.{NodeState, FitsNow}
use Rattle.bus_world.specs.declared.opening.OpenFault.{OpenFault}
use Rattle.bus_world.specs.declared.opening.OpenFault.TheVariants as open_fault
use Rattle.bus_world.specs.TakingUp.{cells_in, CountsRefusal, StandsSo, CellsAtFault}

-- ---- one node over its store

pub record AttachedTo (kind : Kind) (version : Version) (config : Config) (before : DiskState) (n : NodeState)
    : Type 0 where
  pub just_powered : n.node ≡ powered config n.node.kept
  pub sound : Sound n.node
  pub layout_is : n.store.layout ≡ layout kind version
  pub stands : (t : Told) → before.told ≡ Some t → Stands (layout kind version) t.bytes (CellsOf config n.node.kept)
  pub fits : (b : List ℕ) → before.told ≡ Some (firm b) → FitsNow n
  pub runs : Runs [] (reads kind (cells_in config)) before n.store.disk
  pub told : n.store.disk.told ≡ before.told
  pub stays : StaysTold before n.store.disk
  pub grows : Grows before n.store.disk
  pub faults : n.store.disk.faults ≡ before.faults

-- the bytes x stand in this layout for a list of n cells with this property
pub record StandsAs (laid : Layout) (n : ℕ) (x : List ℕ) (P : List (List ℕ) → Type 0) : Type 0 where
  pub cells : List (List ℕ)
  pub count : length cells ≡ n
  pub stands : Stands laid x cells
  pub such : P cells

-- the disk failed; or told bytes have another header, or the store is damaged, or its cells are no node's
abbrev pub AttachCauseOf : Kind → Version → Config → DiskState → DiskState → OpenFault → Type 0
AttachCauseOf kind version config before after (open_fault.Store reread.DiskFailed) = Rose before.faults after.faults
AttachCauseOf kind version config before after (open_fault.Store reread.NotFormatted) =
    (t : Told) → before.told ≡ Some t → HasHeader (layout kind version) (cells_in config) t.bytes → ⊥
AttachCauseOf kind version config before after (open_fault.Store (reread.Damaged i)) =
    (t : Told) → before.told ≡ Some t
    → HasHeader (layout kind version) (cells_in config) t.bytes
    × FirstDamaged (layout kind version) t.bytes (cells_in config) i
AttachCauseOf kind version config before after (open_fault.BadSlot slot) =
    (t : Told) → before.told ≡ Some t
    → StandsAs (layout kind version) (cells_in config) t.bytes (λ cells. FirstBadSlot cells slot)
AttachCauseOf kind version config before after (open_fault.BadBound place) =
    (t : Told) → before.told ≡ Some t
    → StandsAs (layout kind version) (cells_in config) t.bytes (λ cells. SlotsButNoBound config.routes cells place)
AttachCauseOf kind version config before after open_fault.TooSmall = ⊥
AttachCauseOf kind version config before after open_fault.Memory = Unit {0}

pub record NotAttachedTo (kind : Kind) (version : Version) (config : Config) (before after : DiskState)
    (fault : OpenFault) : Type 0 where
  pub runs : Runs [] (reads kind (cells_in config)) before after
  pub told : after.told ≡ before.told
  pub stays : StaysTold before after
  pub cause : AttachCauseOf kind version config before after fault
  pub counts : CountsRefusal fault before.faults after.faults
  pub at_fault : CellsAtFault config fault

-- ---- one node over a store that is moved to version 2

-- the node is open over the store in version 2: told bytes stood for the cells of what it keeps in the version that
-- counts
pub record MovedTo (kind : Kind) (config : Config) (before : DiskState) (n : NodeState) : Type 0 where
  pub just_powered : n.node ≡ powered config n.node.kept
  pub sound : Sound n.node
  pub layout_is : n.store.layout ≡ layout kind Two
  pub stood : (t : Told) → before.told ≡ Some t → StandsAsCounted kind (CellsOf config n.node.kept) t.bytes
  pub moved : Migrates kind (cells_in config) before.told n.store.disk.told
  pub fits : (b : List ℕ) → before.told ≡ Some (firm b) → FitsNow n
  pub runs : Runs [] (move_calls kind (cells_in config) + reads kind (cells_in config)) before n.store.disk
  pub grows : Grows before n.store.disk
  pub faults : n.store.disk.faults ≡ before.faults

-- the disk failed; or told bytes have no header of the store, or the store that counts is damaged, or its cells aren't
-- a node's
abbrev pub MoveCauseOf : Kind → Config → DiskState → DiskState → OpenFault → Type 0
MoveCauseOf kind config before after (open_fault.Store reread.DiskFailed) = Rose before.faults after.faults
MoveCauseOf kind config before after (open_fault.Store reread.NotFormatted) =
    (t : Told) → before.told ≡ Some t → HasHeader (layout kind One) (cells_in config) t.bytes → ⊥
MoveCauseOf kind config before after (open_fault.Store (reread.Damaged i)) =
    (t : Told) → before.told ≡ Some t → DamagedAsCounted kind (cells_in config) i t.bytes
MoveCauseOf kind config before after (open_fault.BadSlot slot) =
    (t : Told) → before.told ≡ Some t → StandsSo kind (cells_in config) t.bytes (λ cells. FirstBadSlot cells slot)
MoveCauseOf kind config before after (open_fault.BadBound place) =
    (t : Told) → before.told ≡ Some t
    → StandsSo kind (cells_in config) t.bytes (λ cells. SlotsButNoBound config.routes cells place)
MoveCauseOf kind config before after open_fault.TooSmall = ⊥
MoveCauseOf kind config before after open_fault.Memory = Unit {0}

-- if the disk didn't fail, told bytes are as they were, or moved; they were moved if its cells are no node's
abbrev pub LeavesMoved : Kind → ℕ → Option Told → Option Told → OpenFault → Type 0
LeavesMoved kind n old new (open_fault.Store reread.DiskFailed) = Unit {0}
LeavesMoved kind n old new (open_fault.BadSlot slot) = Migrates kind n old new
LeavesMoved kind n old new (open_fault.BadBound place) = Migrates kind n old new
LeavesMoved kind n old new fault = (t : Told) → old ≡ Some t → (new ≡ Some t) ⊎ Migrated kind n t new

pub record NotMovedTo (kind : Kind) (config : Config) (before after : DiskState) (fault : OpenFault) : Type 0 where
  pub runs : Runs [] (move_calls kind (cells_in config) + reads kind (cells_in config)) before after
  pub cause : MoveCauseOf kind config before after fault
  pub counts : CountsRefusal fault before.faults after.faults
  pub at_fault : CellsAtFault config fault
  pub leaves : LeavesMoved kind (cells_in config) before.told after.told fault
  pub keeps : KeepsCounted kind (cells_in config) before.told after.told
  pub besides : LeavesBelow kind (cells_in config) before.told after.told

abbrev pub of_store : StoreFault → OpenFault
of_store store.DiskFailed = open_fault.Store reread.DiskFailed
of_store store.NotFormatted = open_fault.Store reread.NotFormatted
of_store (store.Damaged place) = open_fault.Store (reread.Damaged place)
of_store store.TooSmall = open_fault.TooSmall
of_store store.Memory = open_fault.Memory

abbrev pub of_cells : AttachFault → OpenFault
of_cells (cells.BadSlot slot) = open_fault.BadSlot slot
of_cells (cells.BadBound cell) = open_fault.BadBound cell
of_cells cells.Memory = open_fault.Memory
