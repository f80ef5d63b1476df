-- The store of a unit whose engine is a node of a bus: how it is made on an unused disk, or why it isn't (SHE
-- specification, key memory; the cells of bounds are for AUTOSAR SecOC's freshness)
use Rattle.std.specs.Prelude.{◌≡◌, ◌⊎◌, ℕ, ◌<◌, ◌≤◌, Option, Some, None, List, length}
use Rattle.cut_disk.specs.State.{DiskState, Told}
use Rattle.cut_disk.specs.Calls.{Rose, IsQuiet}
use Rattle.cell_store.specs.declared.kinds.Kind.{Kind}
use Rattle.cell_store.specs.declared.kinds.Version.{Version}
use Rattle.cell_store.specs.declared.faults.StoreFault.{StoreFault}
use Rattle.cell_store.specs.declared.faults.StoreFault.TheVariants as store
use Rattle.cell_store.specs.Store.{Stands, FirstDamaged, store_size}
use Rattle.cell_store.specs.Formats.{FreshOn, LeavesUnformed}
use Rattle.any_cells.specs.declared.looking.Found.TheVariants as found
use Rattle.any_cells.specs.Either.{layout}
use Rattle.any_cells.specs.Looking.{IsFound}
use Rattle.slot_disk.specs.Cell.{FirstBadSlot}
use Rattle.freshness_routes.specs.Config.{Config, IsConfig}
use Rattle.bus_machine.specs.Node.{Kept}
use Rattle.secoc_node.specs.declared.faults.AttachFault.{AttachFault}
use Rattle.secoc_node.specs.declared.faults.AttachFault.TheVariants as cells
use Rattle.secoc_node.specs.Cells.{CellsOf, IsKept, SlotsButNoBound}
use Rattle.bus_world.specs.TakingUp.{cells_in, new_cells}
use Rattle.bus_world.specs.Opening.{StandsAs}
use Rattle.store_growing.specs.StoreHeaders.{HeaderStands}
use Rattle.disk_looks.specs.declared.looks.LookFault.{LookFault}
use Rattle.disk_looks.specs.declared.looks.LookFault.TheVariants as look
use Rattle.disk_looks.specs.Looks.{AllZeros}
use Rattle.bus_store_commands.specs.declared.making.MakeFault.{MakeFault}
use Rattle.bus_store_commands.specs.declared.making.MakeFault.TheVariants as fault

-- nothing was ever written here: the headers are blank, and so is all else
abbrev pub IsUnused : Kind → Version → Config → List ℕ → Type 0
IsUnused kind version config x = IsFound kind version (cells_in config) x found.Blank × AllZeros x

-- Told bytes were unused, and have a fresh store of a new node's cells now, none of them loose: fourteen empty slots,
-- and each route's start as its bound. Or the node's store stood there whole, and they are as they were.
pub data MadeOrFound (kind : Kind) (version : Version) (config : Config) (t : Told) (new : Option Told) : Type 0 where
  made : IsUnused kind version config t.bytes
      → FreshOn (layout kind version) (new_cells config) t new → MadeOrFound kind version config t new
  stood : (kept : Kept) → IsFound kind version (cells_in config) t.bytes found.Standing → IsKept config kept
      → Stands (layout kind version) t.bytes (CellsOf config kept) → new ≡ Some t
      → MadeOrFound kind version config t new

-- there was room, no call of the disk failed, and the node's store stands there
pub record StoreMade (kind : Kind) (version : Version) (config : Config) (before after : DiskState) : Type 0 where
  pub is_config : IsConfig config
  pub room : store_size (layout kind version) (cells_in config) ≤ before.size
  pub faults : after.faults ≡ before.faults
  pub told : (t : Told) → before.told ≡ Some t → MadeOrFound kind version config t after.told

-- the bytes stand for cells of which this holds, as the node's store
abbrev pub StandsWith : Kind → Version → Config → List ℕ → (List (List ℕ) → Type 0) → Type 0
StandsWith kind version config x P =
    IsFound kind version (cells_in config) x found.Standing × StandsAs (layout kind version) (cells_in config) x P

-- these bytes aren't the node's store, also if they are its store of version 1 for one of version 2; and a byte isn't
-- zero, so that no store is made: cells may stand there whose header is damaged
abbrev pub IsNotTaken : Kind → Version → Config → List ℕ → Type 0
IsNotTaken kind version config x =
    IsFound kind version (cells_in config) x found.Foreign
    ⊎ (IsFound kind version (cells_in config) x found.Older
    ⊎ (IsFound kind version (cells_in config) x found.Blank × (¬ AllZeros x)))

-- Why bytes are refused. They aren't the node's store, and the store whose header stands there is named, if one does.
-- Or the node's store does stand, and a place is damaged, or a cell holds something else than it is to: the first is
-- named.
abbrev pub BytesRefused : Kind → Version → Config → List ℕ → MakeFault → Type 0
BytesRefused kind version config x (fault.OtherStore there) =
    IsNotTaken kind version config x × HeaderStands x (Some there)
BytesRefused kind version config x (fault.Store store.NotFormatted) =
    IsNotTaken kind version config x × HeaderStands x None
BytesRefused kind version config x (fault.Store (store.Damaged place)) =
    IsFound kind version (cells_in config) x found.Standing
    × FirstDamaged (layout kind version) x (cells_in config) place
BytesRefused kind version config x (fault.BadSlot slot) =
    StandsWith kind version config x (λ cells. FirstBadSlot cells slot)
BytesRefused kind version config x (fault.BadBound place) =
    StandsWith kind version config x (λ cells. SlotsButNoBound config.routes cells place)
BytesRefused kind version config x fault = ⊥

-- nothing was written, and no call of the disk failed
abbrev pub LeftAsItWas : DiskState → DiskState → Type 0
LeftAsItWas before after = (after.told ≡ before.told) × (after.faults ≡ before.faults)

-- The disk failed, and wasn't quiet. Its bytes are as they were; or they were unused, and each image is as a failed
-- format may leave it.
abbrev pub FailedToMake : Kind → Version → Config → DiskState → DiskState → Type 0
FailedToMake kind version config before after = Rose before.faults after.faults × (¬ IsQuiet before)
    × ((after.told ≡ before.told)
    ⊎ (((t : Told) → before.told ≡ Some t → IsUnused kind version config t.bytes)
    × LeavesUnformed (layout kind version) (new_cells config) before.told after.told))

-- why no store is made, and what that leaves of the disk
abbrev pub StoreUnmade : Kind → Version → Config → DiskState → DiskState → MakeFault → Type 0
StoreUnmade kind version config before after (fault.Store store.TooSmall) =
    (before.size < store_size (layout kind version) (cells_in config)) × (after ≡ before)
StoreUnmade kind version config before after (fault.Store store.DiskFailed) =
    FailedToMake kind version config before after
StoreUnmade kind version config before after (fault.Store store.Memory) = LeftAsItWas before after
StoreUnmade kind version config before after cause = LeftAsItWas before after
    × ((t : Told) → before.told ≡ Some t → BytesRefused kind version config t.bytes cause)

-- of cells that are no node's, or memory for a node
abbrev pub fault_of_cells : AttachFault → MakeFault
fault_of_cells (cells.BadSlot slot) = fault.BadSlot slot
fault_of_cells (cells.BadBound place) = fault.BadBound place
fault_of_cells cells.Memory = fault.Store store.Memory

-- of bytes that weren't read
abbrev pub fault_of_look : LookFault → StoreFault
fault_of_look look.DiskFailed = store.DiskFailed
fault_of_look look.Memory = store.Memory

-- told bytes say which store's header stands, or that none does; or the disk failed, which was only read
abbrev pub NamesOther : DiskState → DiskState → MakeFault → Type 0
NamesOther before after (fault.OtherStore there) = LeftAsItWas before after
    × ((t : Told) → before.told ≡ Some t → HeaderStands t.bytes (Some there))
NamesOther before after (fault.Store store.NotFormatted) = LeftAsItWas before after
    × ((t : Told) → before.told ≡ Some t → HeaderStands t.bytes None)
NamesOther before after (fault.Store store.DiskFailed) =
    Rose before.faults after.faults × (¬ IsQuiet before) × (after.told ≡ before.told)
NamesOther before after cause = ⊥
