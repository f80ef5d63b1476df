-- Why a bus doesn't start: the rows that come then, whichever program runs it
use Rattle.std.specs.Prelude.{◌≡◌, ◌⊎◌, ℕ, ◌+◌, ◌<◌, ◌≤◌, List, length, get_or}
use Rattle.program_edge.specs.Rows.{Row, row_of, memory_row}
use Rattle.cut_disk.specs.State.{DiskState}
use Rattle.cell_store.specs.declared.faults.Reread.TheVariants as reread
use Rattle.bus_config.specs.Buses.{NamedBus}
use Rattle.bus_world.specs.declared.start.Start.{Start}
use Rattle.bus_world.specs.declared.start.StartFault.{StartFault}
use Rattle.bus_world.specs.declared.start.StartFault.TheVariants as fault
use Rattle.bus_world.specs.Starts.{NotStarted, HasRoom, FindsRoom}
use Rattle.bus_world.specs.StartRows.{start_row, StoreCause, LeavesEach, DisksDo}

-- what was known of the disks of a command before and after it
pub record DiskStates : Type 0 where
  pub before : List DiskState
  pub after : List DiskState

-- no disk failed: the count of faults of each is as it was
abbrev pub NoDiskFailed : DiskStates → Type 0
NoDiskFailed d = (i : ℕ) (disk : DiskState) → (get_or d.after i disk).faults ≡ (get_or d.before i disk).faults

-- the count of faults of the disk at this place rose
abbrev pub CountsDiskFault : DiskStates → ℕ → Type 0
CountsDiskFault d place = (disk : DiskState) → (get_or d.before place disk).faults < (get_or d.after place disk).faults

-- the row that tells that the disk of the node at this place failed
abbrev pub failed_row : ℕ → Row
failed_row place = start_row (fault.Store (place + 1) reread.DiskFailed)

-- the rows of a bus that doesn't start
pub data ComesOfStart (start : Start) (bus : NamedBus) (d : DiskStates) : Row → Type 0 where
  -- the disks are fewer than the nodes, or that of a node is too small, and the first such node is named
  disks_refused : (fault : StartFault) → FindsRoom bus d.before fault → d.after ≡ d.before
      → ComesOfStart start bus d (row_of 9 (start_row fault).text)
  -- the disk of a node fails, or a node is refused for its bytes
  store_refused : (fault : StartFault) → HasRoom bus d.before → StoreCause start bus d.before d.after fault
      → LeavesEach start bus d.before d.after → ComesOfStart start bus d (row_of 10 (start_row fault).text)
  -- there is no memory for the start itself, and no disk failed
  start_without_memory : (cause : StartFault) → cause ≡ fault.Memory → NotStarted start bus d.before d.after cause
      → NoDiskFailed d → ComesOfStart start bus d memory_row

-- one of them comes; if it is that of 9 every disk is as before, and `same` says so of the disks themselves
abbrev pub ComesUnstarted : Type 0 → Start → NamedBus → DiskStates → Row → Type 0
ComesUnstarted same start bus d row = ComesOfStart start bus d row × (row.status ≡ 9 → same)

-- there are disks enough for the bus, of enough size. Each that it takes tells bytes over which a node is started, and
-- was quiet, or its count didn't rise
abbrev pub BusHasDisks : Start → NamedBus → DiskStates → Type 0
BusHasDisks start bus d = HasRoom bus d.before × DisksDo start bus d.before d.after
