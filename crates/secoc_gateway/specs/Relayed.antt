-- What an arrival leaves: the bytes of what departs, and the node
use Rattle.std.specs.Prelude.{◌≡◌, ◌↔◌, ◌≤◌, ℕ, false, Result, IsErrOf, List, [], length, drop}
use Rattle.cut_disk.specs.Calls.{Rose, Runs}
use Rattle.bus_machine.specs.Sound.{Sound}
use Rattle.secoc_sender.specs.declared.sender.Sent.{Sent}
use Rattle.secoc_node.specs.State.{NodeState, FitsNow}
use Rattle.secoc_node.specs.declared.faults.NodeFault.{NodeFault}
use Rattle.secoc_node.specs.declared.faults.NodeFault.TheVariants.{Down, NoRoute}
use Rattle.secoc_gateway.specs.declared.arrival.Arrival.{Arrival}
use Rattle.secoc_gateway.specs.Arrivals.{IfDropped, IsReason, IsFaulted}

-- the PDU that departs is as long as the one that arrived, and stands at the front of `after`, whose rest is as before
pub record DepartsIn (pdu before after : List ℕ) (sent : Sent) : Type 0 where
  pub as_long : sent.len ≡ length pdu
  pub within : sent.len ≤ 64
  pub rest : drop sent.len after ≡ drop sent.len before

-- what an arrival leaves of the node, whatever it answers
pub record ServedArrival (old new : NodeState) (result : Result Arrival NodeFault) : Type 0 where
  -- it answers that the node is down exactly if it is, and never that there is no route
  pub down : IsErrOf result Down ↔ (old.node.up ≡ false)
  pub routed : ¬ IsErrOf result NoRoute
  -- an accepted payload isn't sent for one of these reasons alone
  pub reason : IfDropped result IsReason
  -- a fault comes only from the disk, and no other answer hides one
  pub faulted : IsFaulted result → Rose old.store.disk.faults new.store.disk.faults
  pub faults : (¬ IsFaulted result) → new.store.disk.faults ≡ old.store.disk.faults
  pub layout : new.store.layout ≡ old.store.layout
  -- at most twelve calls of the disk, which arm nothing and cut nothing
  pub runs : Runs [] 12 old.store.disk new.store.disk
  pub fits : FitsNow old → FitsNow new
  pub sound : Sound new.node
