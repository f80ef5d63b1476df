-- What a start leaves of the store that stands on its disk, under whatever bus file
use Rattle.std.specs.Prelude.{◌≡◌, ◌⊎◌, ℕ, Option, Some, List, length, get_or}
use Rattle.cut_disk.specs.State.{DiskState, Told}
use Rattle.cut_disk.specs.Calls.{Rose}
use Rattle.cell_store.specs.declared.kinds.Kind.{Kind}
use Rattle.cell_store.specs.declared.kinds.Version.TheVariants.{One}
use Rattle.cell_store.specs.Moving.{KeepsCounted}
use Rattle.store_growing.specs.StoreHeaders.{HeaderStands, store_header}
use Rattle.program_edge.specs.Rows.{Row}
use Rattle.disk_looks.specs.Looks.{AllZeros}
use Rattle.secoc_node.specs.State.{NodeState}
use Rattle.bus_config.specs.Buses.{NamedBus}
use Rattle.bus_script.specs.EventForms.{node_line_at}
use Rattle.bus_world.specs.declared.start.Start.TheVariants.{Attach}
use Rattle.bus_world.specs.Starts.{HasRoom, Opened}
use Rattle.bus_world.specs.StartAnswers.{ComesOfStart}
use Rattle.kept_starts.specs.declared.first.KeepFault.{KeepFault}
use Rattle.kept_starts.specs.LookedAt.{LookedAt, NotKept, UnfinishedInBus}

-- What a start of a bus leaves of told bytes: they are as they were; or the header that stands is that of a store of
-- version 1, which is moved to version 2, whole or in part; or nothing was ever written there; or a cut within the first
-- format of the very store of its node left them, so no header stands
pub data StoreStays (bus : NamedBus) (t : Told) (new : Option Told) : Type 0 where
  untouched : new ≡ Some t → StoreStays bus t new
  moved : (kind : Kind) (n : ℕ) → HeaderStands t.bytes (Some (store_header kind One n)) → StoreStays bus t new
  unused : AllZeros t.bytes → StoreStays bus t new
  unfinished : UnfinishedInBus bus t.bytes → StoreStays bus t new

-- That is left. And whichever store stood there, of whatever kind and number of cells: if none of its bytes was loose,
-- whatever a power cut leaves stands for the same cells.
pub record KeepsStores (bus : NamedBus) (t : Told) (new : Option Told) : Type 0 where
  pub stays : StoreStays bus t new
  pub cells : (kind : Kind) (n : ℕ) → KeepsCounted kind n (Some t) new

-- the first of these disks tells these bytes
abbrev pub FirstTells : List DiskState → Told → Type 0
FirstTells disks t = (disk : DiskState) → (get_or disks 0 disk).told ≡ Some t

-- Under any bus of one node, over a first disk that tells its bytes and has room for the store: of a node that is opened
-- after the look, and of a start that is refused after it.
abbrev pub StartsKeepStores : Type 0
StartsKeepStores = (bus : NamedBus) (before seen : List DiskState) (t : Told) → length bus.nodes ≡ 1
    → LookedAt bus before seen → HasRoom bus before → FirstTells before t
    → ((d : DiskState) (n : NodeState)
    → Opened Attach bus.kind bus.version (node_line_at bus.nodes 0).config (get_or seen 0 d) n
    → KeepsStores bus t n.store.disk.told)
    × ((after : List DiskState) (row : Row) → ComesOfStart Attach bus (record { before = seen; after = after }) row
    → (d : DiskState) → KeepsStores bus t (get_or after 0 d).told)

-- and a look at which the start is refused leaves each byte of each disk
abbrev pub RefusedLooksWriteNothing : Type 0
RefusedLooksWriteNothing = (bus : NamedBus) (before after : List DiskState) (fault : KeepFault)
    → NotKept bus before after fault → (i : ℕ) (d : DiskState) → (get_or after i d).told ≡ (get_or before i d).told

-- Under any bus of one node, over a first disk that tells its bytes and has room for the store: a start that is refused
-- with 10 after the look leaves each byte of the disk, if its count of faults didn't rise; or all bytes were zeros, or the
-- node's unfinished format.
abbrev pub RefusedStartsWriteNothing : Type 0
RefusedStartsWriteNothing = (bus : NamedBus) (before seen after : List DiskState) (t : Told) (row : Row)
    → length bus.nodes ≡ 1 → LookedAt bus before seen → HasRoom bus before → FirstTells before t
    → ComesOfStart Attach bus (record { before = seen; after = after }) row → row.status ≡ 10
    → (d : DiskState) → ¬ Rose (get_or before 0 d).faults (get_or after 0 d).faults
    → ((get_or after 0 d).told ≡ Some t) ⊎ (AllZeros t.bytes ⊎ UnfinishedInBus bus t.bytes)
