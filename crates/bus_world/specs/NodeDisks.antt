-- The disks of a bus: each is seen at its node
use Rattle.std.specs.Prelude.{◌≡◌, ℕ, ◌<◌, ◌&&◌, ◌==◌, Bool, true, false, cond, Option, None, Some, List, length, drop}
use Rattle.std.specs.Prelude.{get_or}
use Rattle.cut_disk.specs.declared.Mark.{Mark}
use Rattle.cut_disk.specs.State.{DiskState, Told, Entry}
use Rattle.cut_disk.specs.Calls.{IsQuiet, Later}
use Rattle.cell_store.specs.declared.kinds.Layout.{Layout}
use Rattle.any_cells.specs.Either.{layout}
use Rattle.store_keeping.specs.DiskTurns.{TellsBytes, TracedSince, FailuresTold}
use Rattle.bus_machine.specs.declared.events.Event.{Event}
use Rattle.bus_machine.specs.declared.lines.Line.{Line}
use Rattle.bus_machine.specs.declared.lines.Line.TheVariants.{Refused}
use Rattle.bus_machine.specs.declared.lines.Refusal.TheVariants.{MemoryFailure}
use Rattle.bus_machine.specs.Bus.{World, Moments, node_of, node_at}
use Rattle.bus_machine.specs.Past.{mark_of, most_entries, cell_count}
use Rattle.bus_config.specs.Buses.{NamedBus}
use Rattle.bus_world.specs.Turns.{FitsNode}

-- the disk of each node tells its bytes
abbrev pub TellEach : NamedBus → List DiskState → Type 0
TellEach bus disks =
    (i : ℕ) (d : DiskState) → i < length bus.nodes → (told : Told) × ((get_or disks i d).told ≡ Some told)

-- the disk of each node is quiet
abbrev pub AreQuiet : NamedBus → List DiskState → Type 0
AreQuiet bus disks = (i : ℕ) (d : DiskState) → i < length bus.nodes → IsQuiet (get_or disks i d)

-- ---- the bus seen at node i: an event of another node does nothing to its disk

-- the mark that an event leaves in the past of its disk
abbrev pub mark_at : ℕ → Event → Option Mark
mark_at i event = cond (node_of event == i) (mark_of event) None

-- the most entries that an event adds to it, by the world after the event
abbrev pub most_at : ℕ → World → Event → ℕ
most_at i world event = cond (node_of event == i) (most_entries (cell_count (node_at world i)) event) 0

-- the line tells that a disk failed
abbrev pub tells_failure : Line → Bool
tells_failure (Refused MemoryFailure) = true
tells_failure _ = false

-- the line answers an event of the node, and tells that its disk failed
abbrev pub fails_at : ℕ → Event → Line → Bool
fails_at i event line = (node_of event == i) && tells_failure line

-- a state of its disk fits the node of this world
abbrev pub fits_at : Layout → ℕ → World → Told → Type 0
fits_at layout i world = FitsNode layout (node_at world i)

-- ---- after these moments

-- the disk of node i, whether it tells its bytes or not: its count isn't below, it still tells what it told of its
-- past, and lines tell its failures
pub record DiskStays (i : ℕ) (before after : DiskState) (moments : Moments) : Type 0 where
  pub later : Later before after
  pub failures : FailuresTold (mark_at i) (fails_at i) moments before after

-- each disk of the bus
abbrev pub DisksStay : NamedBus → List DiskState → List DiskState → Moments → Type 0
DisksStay bus before after moments =
    (i : ℕ) (d : DiskState) → i < length bus.nodes → DiskStays i (get_or before i d) (get_or after i d) moments

-- each disk handed back tells bytes that fit its node of the last world, and still tells what it told of its past;
-- those past the number of nodes are as before; and if one tells its past, what the moments added is traced
pub record DisksFollow (first : World) (bus : NamedBus) (before after : List DiskState) (moments : Moments)
    (last : World) : Type 0 where
  pub fit : (i : ℕ) (d : DiskState) → i < length bus.nodes
      → TellsBytes (fits_at (layout bus.kind bus.version) i last) (get_or after i d)
  pub later : (i : ℕ) (d : DiskState) → i < length bus.nodes → Later (get_or before i d) (get_or after i d)
  pub count : length after ≡ length before
  pub rest : drop (length bus.nodes) after ≡ drop (length bus.nodes) before
  pub traced : (i : ℕ) (d : DiskState) (all : List Entry) → i < length bus.nodes → (get_or after i d).past ≡ Some all
      → TracedSince (mark_at i) (most_at i) (fits_at (layout bus.kind bus.version) i) first moments
      (get_or before i d) all
