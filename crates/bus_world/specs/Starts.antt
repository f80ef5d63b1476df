-- How a world starts: each node over its disk, which is formatted for it or attached
use Rattle.std.specs.Prelude.{◌≡◌, ℕ, ◌+◌, ◌-◌, ◌<◌, ◌≤◌, Some, List, [], ◌∷◌, length, map, drop, get_or}
use Rattle.cut_disk.specs.State.{DiskState, Told}
use Rattle.cut_disk.specs.Images.{firm}
use Rattle.cut_disk.specs.Calls.{Rose, Runs, Grows}
use Rattle.cell_store.specs.declared.kinds.Kind.{Kind}
use Rattle.cell_store.specs.declared.kinds.Version.{Version}
use Rattle.cell_store.specs.declared.faults.Reread.TheVariants as reread
use Rattle.cell_store.specs.Store.{store_size}
use Rattle.any_cells.specs.Either.{layout}
use Rattle.freshness_routes.specs.Config.{Config}
use Rattle.bus_machine.specs.Node.{Node, Kept, powered}
use Rattle.bus_machine.specs.Sound.{Sound}
use Rattle.bus_machine.specs.Bus.{World, node_at}
use Rattle.bus_config.specs.declared.node_lines.NodeLine.{NodeLine}
use Rattle.bus_config.specs.Buses.{NamedBus}
use Rattle.secoc_node.specs.State.{NodeState, FitsNow}
use Rattle.bus_world.specs.declared.opening.OpenFault.{OpenFault}
use Rattle.bus_world.specs.declared.opening.OpenFault.TheVariants as open_fault
use Rattle.bus_world.specs.declared.start.Start.{Start}
use Rattle.bus_world.specs.declared.start.Start.TheVariants.{Format, Attach}
use Rattle.bus_world.specs.declared.start.StartFault.{StartFault}
use Rattle.bus_world.specs.declared.start.StartFault.TheVariants as start_fault
pub use Rattle.bus_world.specs.TakingUp.{cells_in, new_cells, start_calls, KeptOn, LeavesOpened, LeftOver, LeavesDisk}
pub use Rattle.bus_world.specs.TakingUp.{StaysFound, RefusedFor, OpenCause, MovedFirst, CountsRefusal, CellsAtFault}
use Rattle.bus_world.specs.Worlds.{BusState}

-- ---- one node

-- told bytes fit the node: always if the disk was formatted, and if it was attached, if no told byte was loose
abbrev pub FitsOpened : Start → DiskState → NodeState → Type 0
FitsOpened Format before n = FitsNow n
FitsOpened Attach before n = (b : List ℕ) → before.told ≡ Some (firm b) → FitsNow n

-- A node is open over a disk: it has just powered up and is sound. If the disk told its bytes, the node keeps what a
-- node keeps that is started over them. No mark was added to a past, and at least one entry was.
pub record Opened (start : Start) (kind : Kind) (version : Version) (config : Config) (before : DiskState)
    (n : NodeState) : Type 0 where
  pub just_powered : n.node ≡ powered config n.node.kept
  pub sound : Sound n.node
  pub layout_is : n.store.layout ≡ layout kind version
  pub kept : (t : Told) → before.told ≡ Some t → KeptOn start kind version config t.bytes n.node.kept
  pub fits : FitsOpened start before n
  pub runs : Runs [] (start_calls start kind config) before n.store.disk
  pub grows : Grows before n.store.disk
  pub faults : n.store.disk.faults ≡ before.faults
  pub leaves : LeavesOpened start kind version config before.told n.store.disk.told
  pub stays : StaysFound start kind version config before n.store.disk

pub record NotOpened (start : Start) (kind : Kind) (version : Version) (config : Config) (before after : DiskState)
    (fault : OpenFault) : Type 0 where
  pub runs : Runs [] (start_calls start kind config) before after
  pub left : LeftOver start kind version config before after
  pub cause : OpenCause start kind version config before after fault
  pub leaves : LeavesDisk start kind version config before after
  pub stays : StaysFound start kind version config before after
  pub moved : MovedFirst kind version config before.told after.told fault
  pub counts : CountsRefusal fault before.faults after.faults
  pub at_fault : CellsAtFault config fault

-- ---- all nodes

abbrev pub disks_of : List NodeState → List DiskState
disks_of nodes = map (λ n. n.store.disk) nodes

-- there is a disk for each node, with room for its store
pub record HasRoom (bus : NamedBus) (disks : List DiskState) : Type 0 where
  pub enough : length bus.nodes ≤ length disks
  pub room : (i : ℕ) (l : NodeLine) (d : DiskState) → i < length bus.nodes
      → store_size (layout bus.kind bus.version) (cells_in (get_or bus.nodes i l).config) ≤ (get_or disks i d).size

-- the first k nodes are open, each over its disk
pub record OpenedFirst (start : Start) (k : ℕ) (bus : NamedBus) (before : List DiskState) (nodes : List NodeState)
    : Type 0 where
  pub count : length nodes ≡ k
  pub opened : (i : ℕ) (l : NodeLine) (d : DiskState) (n : NodeState) → i < k
      → Opened start bus.kind bus.version (get_or bus.nodes i l).config (get_or before i d) (get_or nodes i n)

-- there was room, and every node of the bus is open, each over its disk
pub record OpensNodes (start : Start) (bus : NamedBus) (before : List DiskState) (nodes : List NodeState) : Type 0 where
  pub room : HasRoom bus before
  pub opened : OpenedFirst start (length bus.nodes) bus before nodes

pub record Started (start : Start) (bus : NamedBus) (most : ℕ) (before : List DiskState) (world : BusState)
    : Type 0 where
  pub room : HasRoom bus before
  pub nodes : OpenedFirst start (length bus.nodes) bus before world.nodes
  pub no_event : world.events ≡ 0
  pub most_is : world.most ≡ most
  pub nothing_sent : world.sent ≡ []

-- The number, from 1, is that of the node whose start was refused. This holds of its configuration and of its disk
-- before and after. Each node before it was taken: its disk didn't fail, and told bytes are such as a node is started
-- over. The disks after it are as before.
pub record OfNumber (start : Start) (bus : NamedBus) (before after : List DiskState) (number : ℕ)
    (P : Config → DiskState → DiskState → Type 0) : Type 0 where
  pub least : 1 ≤ number
  pub most : number ≤ length bus.nodes
  pub disk : (l : NodeLine) (d : DiskState)
      → P (get_or bus.nodes (number - 1) l).config (get_or before (number - 1) d) (get_or after (number - 1) d)
  pub earlier : (i : ℕ) (d : DiskState) → i < number - 1 → (get_or after i d).faults ≡ (get_or before i d).faults
  pub taken : (i : ℕ) (l : NodeLine) (d : DiskState) (t : Told) → i < number - 1 → (get_or before i d).told ≡ Some t
      → (kept : Kept) × KeptOn start bus.kind bus.version (get_or bus.nodes i l).config t.bytes kept
  pub later : (i : ℕ) (d : DiskState) → number ≤ i → get_or after i d ≡ get_or before i d

-- The node of this number is refused for the bytes of its disk, whose count of faults is as it was. A store in version
-- 1 was moved before its cells were looked at. Of a cell named over a disk that doesn't tell its bytes this says only
-- that it is one of a slot or of a bound.
abbrev pub RefusedAt : Start → NamedBus → List DiskState → List DiskState → ℕ → OpenFault → Type 0
RefusedAt start bus before after number fault = OfNumber start bus before after number
    (λ config old new. RefusedFor start bus.kind bus.version config old.told fault × (new.faults ≡ old.faults)
    × MovedFirst bus.kind bus.version config old.told new.told fault × CellsAtFault config fault)

abbrev pub StartCause : Start → NamedBus → List DiskState → List DiskState → StartFault → Type 0
StartCause start bus before after (start_fault.Store number reread.DiskFailed) =
    OfNumber start bus before after number (λ config old new. Rose old.faults new.faults)
StartCause start bus before after (start_fault.Store number fault) =
    RefusedAt start bus before after number (open_fault.Store fault)
StartCause start bus before after (start_fault.BadSlot number slot) =
    RefusedAt start bus before after number (open_fault.BadSlot slot)
StartCause start bus before after (start_fault.BadBound number cell) =
    RefusedAt start bus before after number (open_fault.BadBound cell)
StartCause start bus before after fault = Unit {0}

-- a start that began, and was refused
pub record Broken (start : Start) (bus : NamedBus) (before after : List DiskState) (fault : StartFault) : Type 0 where
  pub room : HasRoom bus before
  pub count : length after ≡ length before
  pub left : (i : ℕ) (l : NodeLine) (d : DiskState) → i < length bus.nodes
      → Runs [] (start_calls start bus.kind (get_or bus.nodes i l).config) (get_or before i d) (get_or after i d)
      × LeftOver start bus.kind bus.version (get_or bus.nodes i l).config (get_or before i d) (get_or after i d)
  pub rest : drop (length bus.nodes) after ≡ drop (length bus.nodes) before
  pub cause : StartCause start bus before after fault
  pub leaves : (i : ℕ) (l : NodeLine) (d : DiskState) → i < length bus.nodes
      → LeavesDisk start bus.kind bus.version (get_or bus.nodes i l).config (get_or before i d) (get_or after i d)
  pub stays : (i : ℕ) (l : NodeLine) (d : DiskState) → i < length bus.nodes
      → StaysFound start bus.kind bus.version (get_or bus.nodes i l).config (get_or before i d) (get_or after i d)
  pub memory : fault ≡ start_fault.Memory → (i : ℕ) (d : DiskState)
      → (get_or after i d).faults ≡ (get_or before i d).faults

-- the disk of this node is the first that is too small
pub record IsTooSmall (bus : NamedBus) (disks : List DiskState) (number : ℕ) : Type 0 where
  pub enough : length bus.nodes ≤ length disks
  pub least : 1 ≤ number
  pub most : number ≤ length bus.nodes
  pub small : (l : NodeLine) (d : DiskState)
      → (get_or disks (number - 1) d).size < store_size (layout bus.kind bus.version)
      (cells_in (get_or bus.nodes (number - 1) l).config)
  pub before : (i : ℕ) (l : NodeLine) (d : DiskState) → i < number - 1
      → store_size (layout bus.kind bus.version) (cells_in (get_or bus.nodes i l).config) ≤ (get_or disks i d).size

abbrev pub NotStarted : Start → NamedBus → List DiskState → List DiskState → StartFault → Type 0
NotStarted start bus before after start_fault.TooFew = (length before < length bus.nodes) × (after ≡ before)
NotStarted start bus before after (start_fault.TooSmall number) = IsTooSmall bus before number × (after ≡ before)
NotStarted start bus before after fault = Broken start bus before after fault

-- no disk, or the first that is too small, or room for all
abbrev pub FindsRoom : NamedBus → List DiskState → StartFault → Type 0
FindsRoom bus disks start_fault.TooFew = length disks < length bus.nodes
FindsRoom bus disks (start_fault.TooSmall number) = IsTooSmall bus disks number
FindsRoom bus disks fault = ⊥

abbrev pub fault_of_node : ℕ → OpenFault → StartFault
fault_of_node number (open_fault.Store fault) = start_fault.Store number fault
fault_of_node number (open_fault.BadSlot slot) = start_fault.BadSlot number slot
fault_of_node number (open_fault.BadBound cell) = start_fault.BadBound number cell
fault_of_node number open_fault.TooSmall = start_fault.TooSmall number
fault_of_node number open_fault.Memory = start_fault.Memory

-- the node after the first k isn't open: its disk stands first again
pub record OpensTo (start : Start) (bus : NamedBus) (before after : List DiskState) (nodes : List NodeState)
    (fault : StartFault) : Type 0 where
  pub place : ℕ
  pub inside : place < length bus.nodes
  pub opened : OpenedFirst start place bus before nodes
  pub disk : DiskState
  pub left : after ≡ disk ∷ drop (place + 1) before
  pub cause : OpenFault
  pub refused : (l : NodeLine) (d : DiskState)
      → NotOpened start bus.kind bus.version (get_or bus.nodes place l).config (get_or before place d) disk cause
  pub fault_is : fault ≡ fault_of_node (place + 1) cause

-- ---- where a bus goes on

-- a node of the machine that is started over a disk: it has just powered up, and if the disk tells its bytes, what it
-- keeps is what a node keeps that is attached to them
pub record NodeGoesOn (kind : Kind) (version : Version) (config : Config) (disk : DiskState) (node : Node)
    : Type 0 where
  pub just_powered : node ≡ powered config node.kept
  pub kept : (t : Told) → disk.told ≡ Some t → KeptOn Attach kind version config t.bytes node.kept

-- a world in which a bus goes on where its disks stand: no event and no sent line yet, and each node goes on over its
-- disk
pub record StartsOver (bus : NamedBus) (before : List DiskState) (world : World) : Type 0 where
  pub no_event : world.events ≡ 0
  pub nothing_sent : world.sent ≡ []
  pub count : length world.nodes ≡ length bus.nodes
  pub nodes : (i : ℕ) (l : NodeLine) (d : DiskState) → i < length bus.nodes
      → NodeGoesOn bus.kind bus.version (get_or bus.nodes i l).config (get_or before i d) (node_at world i)
