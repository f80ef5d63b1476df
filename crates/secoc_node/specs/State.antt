-- What a node means to a proof: the node of the machine, and the store in which it keeps what outlasts a power cut
use Rattle.std.specs.Prelude.{◌≡◌, ◌↔◌, ℕ, ◌+◌, ◌≤◌, false, [], Result, OnOk, IsErrOf}
use Rattle.cut_disk.specs.Calls.{Rose, Runs}
use Rattle.cell_store.specs.Cells.{CellsState}
use Rattle.freshness_routes.specs.declared.routes.Direction.{Direction}
use Rattle.freshness_manager.specs.Counters.{KeepsBound}
use Rattle.bus_machine.specs.Node.{Node, place_of}
use Rattle.bus_machine.specs.Sound.{Sound}
use Rattle.store_keeping.specs.Keeping.{FitsStore, TellsKept}
use Rattle.secoc_node.specs.declared.faults.NodeFault.{NodeFault}
use Rattle.secoc_node.specs.declared.faults.NodeFault.TheVariants as fault
use Rattle.secoc_node.specs.Fits.{node_keeping}

pub record NodeState : Type 0 where
  pub node : Node
  pub store : CellsState

-- if the disk tells its bytes, they fit the node
abbrev pub FitsNow : NodeState → Type 0
FitsNow s = FitsStore (node_keeping s.node) s.store

-- the disk tells its bytes, and they fit the node
abbrev pub TellsFitting : NodeState → Type 0
TellsFitting s = TellsKept (node_keeping s.node) s.store

-- what a send, a receive or a load leaves, whatever it answers: it answers that the node is down exactly if it is; a
-- fault comes only from the disk; at most six calls of the disk, which arm nothing and cut nothing. Ok comes only if
-- the count of faults stayed.
pub record Served {T : Type 0} (old new : NodeState) (result : Result T NodeFault) : Type 0 where
  pub down : IsErrOf result fault.Down ↔ (old.node.up ≡ false)
  pub faulted : IsErrOf result fault.Faulted → Rose old.store.disk.faults new.store.disk.faults
  pub faults : OnOk result (new.store.disk.faults ≡ old.store.disk.faults)
  pub layout : new.store.layout ≡ old.store.layout
  pub runs : Runs [] 6 old.store.disk new.store.disk
  pub fits : FitsNow old → FitsNow new
  pub sound : Sound new.node

-- the bound in the cell of the route with this Data ID and direction is at least this freshness
pub record IsCovered (s : NodeState) (id : ℕ) (direction : Direction) (freshness : ℕ) : Type 0 where
  pub bound : ℕ
  pub kept : KeepsBound s.store.cells (14 + place_of s.node id direction) id direction bound
  pub covers : freshness ≤ bound
