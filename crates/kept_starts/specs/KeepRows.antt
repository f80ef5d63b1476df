-- The rows of a start that keeps what stands on the disk, if it doesn't go on
use Rattle.std.specs.Prelude.{◌≡◌, ◌⊎◌, ℕ, Some, List, get_or}
use Rattle.cut_disk.specs.State.{DiskState, Told}
use Rattle.cell_store.specs.declared.faults.Reread.TheVariants as reread
use Rattle.program_edge.specs.Rows.{Row, row_of, memory_row}
use Rattle.disk_looks.specs.Texts.{standing_text}
use Rattle.bus_config.specs.Buses.{NamedBus}
use Rattle.bus_world.specs.declared.start.Start.TheVariants.{Attach}
use Rattle.bus_world.specs.declared.start.StartFault.{StartFault}
use Rattle.bus_world.specs.declared.start.StartFault.TheVariants as fault
use Rattle.bus_world.specs.Starts.{HasRoom}
use Rattle.bus_world.specs.StartRows.{start_row, CanStart, StoreCause, LeavesEach}
use Rattle.bus_world.specs.StartAnswers.{DiskStates, ComesUnstarted, BusHasDisks}
use Rattle.kept_starts.specs.declared.first.KeepFault.{KeepFault}
use Rattle.kept_starts.specs.declared.first.KeepFault.TheVariants as keep
use Rattle.kept_starts.specs.LookedAt.{config_in_bus, LookedAt, NotKept, KeepsInBus, KeepsTold}

-- 10 and the line of the store that stands, or that the node's store isn't there or failed; and out of memory
abbrev pub keep_row : KeepFault → Row
keep_row (keep.OtherStore there) = row_of 10 (standing_text there)
keep_row keep.NotFormatted = start_row (fault.Store 1 reread.NotFormatted)
keep_row (keep.Damaged place) = start_row (fault.Store 1 (reread.Damaged place))
keep_row (keep.BadSlot slot) = start_row (fault.BadSlot 1 slot)
keep_row (keep.BadBound cell) = start_row (fault.BadBound 1 cell)
keep_row keep.DiskFailed = start_row (fault.Store 1 reread.DiskFailed)
keep_row keep.Memory = memory_row

-- The row of a start that doesn't go on: of the look at the disk; or of the start after it, over the disk as it was
-- then. If it is that of 9 every disk is as before, and `same` says so of the disks themselves.
pub data ComesKept (same : Type 0) (bus : NamedBus) (d : DiskStates) (row : Row) : Type 0 where
  of_look : (fault : KeepFault) → NotKept bus d.before d.after fault → row ≡ keep_row fault → ComesKept same bus d row
  of_start : (seen : List DiskState) → LookedAt bus d.before seen
      → ComesUnstarted same Attach bus (record { before = seen; after = d.after }) row → ComesKept same bus d row

-- a start of the bus goes on over these disks, and the bytes of the first, if it tells them, are all zeros, the node's
-- store or its unfinished format
abbrev pub BusKeepsDisk : NamedBus → DiskStates → Type 0
BusKeepsDisk bus d = BusHasDisks Attach bus d × ((disk : DiskState) → KeepsTold bus (get_or d.before 0 disk))

-- over these bytes the one node of the bus can go on: a start keeps them, and they are such as a node is started over
abbrev pub CanGoOn : NamedBus → List ℕ → Type 0
CanGoOn bus x = KeepsInBus bus x × CanStart Attach bus.kind bus.version (config_in_bus bus) x

-- the first disk tells bytes over which it can't
abbrev pub HoldsNoStore : NamedBus → List DiskState → Type 0
HoldsNoStore bus disks = (disk : DiskState) → (told : Told) × ((get_or disks 0 disk).told ≡ Some told)
    × ¬ CanGoOn bus told.bytes

-- Why a start of the bus refuses what stands on its disk, in a row of 10, and this of the text that tells it. There is
-- room for the store. At the look: another store's header stands, or none does and the bytes are neither zeros nor the
-- node's unfinished format, or a store in version 1 that would be moved is damaged or a cell of it isn't the node's, or
-- the disk failed; it was only read. Or at the start after the look: the disk failed, or its bytes are refused. If the
-- disk didn't fail, no byte of a disk that was in use changed (`RefusedStartsWriteNothing`).
pub data RefusesStart (bus : NamedBus) (d : DiskStates) (Tells : List ℕ → Type 0) : Type 0 where
  at_look : (fault : KeepFault) → NotKept bus d.before d.after fault → (keep_row fault).status ≡ 10
      → Tells (keep_row fault).text → RefusesStart bus d Tells
  at_start : (seen : List DiskState) → LookedAt bus d.before seen → (fault : StartFault) → HasRoom bus seen
      → StoreCause Attach bus seen d.after fault → LeavesEach Attach bus seen d.after
      → Tells (start_row fault).text → RefusesStart bus d Tells
