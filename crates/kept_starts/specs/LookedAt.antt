-- A look at the disk of the one node of a bus, before the node is started there
use Rattle.std.specs.Prelude.{◌≡◌, ◌⊎◌, ◌≤◌, ◌+◌, ℕ, Some, List, [], ◌∷◌, get_or, length}
use Rattle.cut_disk.specs.State.{DiskState, Told}
use Rattle.cut_disk.specs.Calls.{Rose, Runs, AsBefore}
use Rattle.cell_store.specs.declared.kinds.Version.TheVariants.{One}
use Rattle.cell_store.specs.declared.faults.StoreFault.{StoreFault}
use Rattle.cell_store.specs.declared.faults.StoreFault.TheVariants as store
use Rattle.cell_store.specs.ReadOrder.{reads}
use Rattle.cell_store.specs.Store.{Stands, store_size}
use Rattle.any_cells.specs.declared.looking.Found.TheVariants as found
use Rattle.any_cells.specs.Looking.{IsFound}
use Rattle.any_cells.specs.Either.{layout}
use Rattle.disk_looks.specs.declared.looks.Seen.{Seen}
use Rattle.disk_looks.specs.declared.looks.Seen.TheVariants.{Other, Neither}
use Rattle.disk_looks.specs.Looks.{LooksAs, CanKeep}
use Rattle.bus_config.specs.Buses.{NamedBus}
use Rattle.bus_script.specs.EventForms.{node_line_at}
use Rattle.freshness_routes.specs.Config.{Config}
use Rattle.bus_machine.specs.Node.{Kept}
use Rattle.secoc_node.specs.declared.faults.AttachFault.{AttachFault}
use Rattle.secoc_node.specs.declared.faults.AttachFault.TheVariants as cells
use Rattle.secoc_node.specs.Cells.{CellsOf, IsKept}
use Rattle.bus_world.specs.TakingUp.{cells_in, new_cells, NoNodeOn}
use Rattle.bus_world.specs.Opening.{of_store, of_cells}
use Rattle.bus_world.specs.Starts.{HasRoom}
use Rattle.kept_starts.specs.declared.first.KeepFault.{KeepFault}
use Rattle.kept_starts.specs.declared.first.KeepFault.TheVariants as keep
use Rattle.kept_starts.specs.Unfinished.{IsUnfinishedFormat}

-- how many cells the store of the bus's one node has, and how many bytes
abbrev pub cells_in_bus : NamedBus → ℕ
cells_in_bus bus = cells_in (node_line_at bus.nodes 0).config

abbrev pub size_in_bus : NamedBus → ℕ
size_in_bus bus = store_size (layout bus.kind bus.version) (cells_in_bus bus)

abbrev pub config_in_bus : NamedBus → Config
config_in_bus bus = (node_line_at bus.nodes 0).config

-- the most calls of a disk that read the cells of a store of that size; and those of a whole look
abbrev pub cells_calls : NamedBus → ℕ
cells_calls bus = reads bus.kind (cells_in_bus bus)

abbrev pub look_calls : NamedBus → ℕ
look_calls bus = 3 + cells_calls bus

-- the bytes are seen as this, for a start that wants that store
abbrev pub SeenInBus : NamedBus → List ℕ → Seen → Type 0
SeenInBus bus x seen = LooksAs bus.kind bus.version (cells_in_bus bus) x seen

-- a cut within the first format of the node's store left these of zeros
abbrev pub UnfinishedInBus : NamedBus → List ℕ → Type 0
UnfinishedInBus bus x = IsUnfinishedFormat bus.kind bus.version (new_cells (config_in_bus bus)) x

abbrev pub TellsUnfinished : NamedBus → DiskState → Type 0
TellsUnfinished bus disk = (t : Told) → disk.told ≡ Some t → UnfinishedInBus bus t.bytes

-- the bytes are such that a start keeps what stands there: all zeros, or the node's store, or its unfinished format
abbrev pub KeepsInBus : NamedBus → List ℕ → Type 0
KeepsInBus bus x = CanKeep bus.kind bus.version (cells_in_bus bus) x ⊎ UnfinishedInBus bus x

abbrev pub KeepsTold : NamedBus → DiskState → Type 0
KeepsTold bus disk = (t : Told) → disk.told ≡ Some t → KeepsInBus bus t.bytes

-- there is a disk with room for it
abbrev pub HasStoreRoom : NamedBus → List DiskState → Type 0
HasStoreRoom bus disks = (disk : DiskState) → (1 ≤ length disks) × (size_in_bus bus ≤ (get_or disks 0 disk).size)

-- told bytes stand in version 1 for the cells of what a node with this configuration keeps
abbrev pub HoldsOldCells : NamedBus → DiskState → Type 0
HoldsOldCells bus disk = (t : Told) → disk.told ≡ Some t → (kept : Kept) × IsKept (config_in_bus bus) kept
    × Stands (layout bus.kind One) t.bytes (CellsOf (config_in_bus bus) kept)

-- if told bytes have the node's store in version 1, which a start in version 2 moves, its cells are the node's
abbrev pub KeepsOlder : NamedBus → DiskState → Type 0
KeepsOlder bus disk = (t : Told) → disk.told ≡ Some t
    → IsFound bus.kind bus.version (cells_in_bus bus) t.bytes found.Older
    → (kept : Kept) × IsKept (config_in_bus bus) kept
    × Stands (layout bus.kind One) t.bytes (CellsOf (config_in_bus bus) kept)

-- why a store in version 1 isn't read, and why its cells are no node's
abbrev pub keep_fault_of_store : StoreFault → KeepFault
keep_fault_of_store store.DiskFailed = keep.DiskFailed
keep_fault_of_store store.NotFormatted = keep.NotFormatted
keep_fault_of_store store.TooSmall = keep.NotFormatted
keep_fault_of_store (store.Damaged place) = keep.Damaged place
keep_fault_of_store store.Memory = keep.Memory

abbrev pub keep_fault_of_cells : AttachFault → KeepFault
keep_fault_of_cells (cells.BadSlot slot) = keep.BadSlot slot
keep_fault_of_cells (cells.BadBound cell) = keep.BadBound cell
keep_fault_of_cells cells.Memory = keep.Memory

-- the bytes are such as no node of the bus's configuration is started over: for what stands of a store, or its cells
abbrev pub UnreadInBus : NamedBus → List ℕ → StoreFault → Type 0
UnreadInBus bus x fault = NoNodeOn bus.kind bus.version (config_in_bus bus) x (of_store fault)

abbrev pub CellsNotInBus : NamedBus → List ℕ → AttachFault → Type 0
CellsNotInBus bus x fault = NoNodeOn bus.kind bus.version (config_in_bus bus) x (of_cells fault)

-- why a start doesn't go on: told bytes have another store; or neither a store nor zeros alone, nor the node's unfinished
-- format; or the node's store in version 1, which is damaged, or a cell of which isn't the node's; and no call failed. Or
-- a call of the disk failed; or there was no memory
abbrev pub KeepCause : NamedBus → DiskState → DiskState → KeepFault → Type 0
KeepCause bus disk seen (keep.OtherStore there) = (seen.faults ≡ disk.faults)
    × ((t : Told) → disk.told ≡ Some t → SeenInBus bus t.bytes (Other there))
KeepCause bus disk seen keep.NotFormatted = (seen.faults ≡ disk.faults)
    × ((t : Told) → disk.told ≡ Some t
    → (SeenInBus bus t.bytes Neither × (¬ UnfinishedInBus bus t.bytes))
    ⊎ UnreadInBus bus t.bytes store.NotFormatted)
KeepCause bus disk seen (keep.Damaged place) = (seen.faults ≡ disk.faults)
    × ((t : Told) → disk.told ≡ Some t → UnreadInBus bus t.bytes (store.Damaged place))
KeepCause bus disk seen (keep.BadSlot slot) = (seen.faults ≡ disk.faults)
    × ((t : Told) → disk.told ≡ Some t → CellsNotInBus bus t.bytes (cells.BadSlot slot))
KeepCause bus disk seen (keep.BadBound cell) = (seen.faults ≡ disk.faults)
    × ((t : Told) → disk.told ≡ Some t → CellsNotInBus bus t.bytes (cells.BadBound cell))
KeepCause bus disk seen keep.DiskFailed = Rose disk.faults seen.faults
KeepCause bus disk seen keep.Memory = seen.faults ≡ disk.faults

-- so the disk was only read, in so many calls
pub record FailsToKeepWithin (calls : ℕ) (bus : NamedBus) (disk seen : DiskState) (fault : KeepFault) : Type 0 where
  pub runs : Runs [] calls disk seen
  pub told : seen.told ≡ disk.told
  pub cause : KeepCause bus disk seen fault

abbrev pub FailsToKeep : NamedBus → DiskState → DiskState → KeepFault → Type 0
FailsToKeep bus disk seen fault = FailsToKeepWithin (look_calls bus) bus disk seen fault

-- ---- the first of the disks

-- There is no room for the store, and no disk was looked at. Or the first disk was: it is as before, except for reads,
-- and told bytes are such that the start keeps what stands there; of a store in version 1 that it would move, the cells
-- are the node's. The others are as before.
pub data LookedAt (bus : NamedBus) (before : List DiskState) : List DiskState → Type 0 where
  no_room : ¬ HasRoom bus before → LookedAt bus before before
  looked : (disk seen : DiskState) (rest : List DiskState) → before ≡ disk ∷ rest → HasRoom bus before
      → AsBefore (look_calls bus) disk seen → KeepsTold bus disk → KeepsOlder bus disk
      → LookedAt bus before (seen ∷ rest)

-- there is room, and the start doesn't go on over the first disk, which was only read
pub record NotKept (bus : NamedBus) (before after : List DiskState) (fault : KeepFault) : Type 0 where
  pub disk : DiskState
  pub seen : DiskState
  pub rest : List DiskState
  pub before_is : before ≡ disk ∷ rest
  pub after_is : after ≡ seen ∷ rest
  pub room : HasRoom bus before
  pub fails : FailsToKeep bus disk seen fault
