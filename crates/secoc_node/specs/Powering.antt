-- What a power cut of a node leaves
use Rattle.std.specs.Prelude.{◌≡◌, Some}
use Rattle.cut_disk.specs.State.{Told}
use Rattle.cut_disk.specs.Calls.{Grows}
use Rattle.cell_store.specs.declared.faults.Reread.TheVariants.{DiskFailed}
use Rattle.cell_store.specs.Cells.{Settled, StandsNow}
use Rattle.bus_machine.specs.Node.{powered, refused_up}
use Rattle.secoc_node.specs.declared.faults.CutFault.{CutFault}
use Rattle.secoc_node.specs.declared.faults.CutFault.TheVariants.{Store}
use Rattle.secoc_node.specs.Cells.{CellsOf}
use Rattle.secoc_node.specs.State.{NodeState, TellsFitting}
use Rattle.secoc_node.specs.Causes.{CutCause}

-- the node is up again
pub record ComesUp (old new : NodeState) : Type 0 where
  -- with no boot made, each counter its bound, and nothing pending
  pub up : new.node ≡ powered old.node.config new.node.kept
  -- what it keeps is what the cells have, and bytes that are told stand for these
  pub kept : new.store.cells ≡ CellsOf old.node.config new.node.kept
  pub stands : StandsNow new.store
  pub settled : (t : Told) → old.store.disk.told ≡ Some t → Settled new.store
  -- no call of the disk failed, and a told past has grown
  pub faults : new.store.disk.faults ≡ old.store.disk.faults
  pub grows : Grows old.store.disk new.store.disk

-- the node stays down, for this fault
pub record StaysDown (old new : NodeState) (fault : CutFault) : Type 0 where
  -- with what it knew
  pub refused : new.node ≡ refused_up old.node
  pub cause : CutCause old.node.config.routes old.store new.store fault
  -- over a disk that fitted the node only the disk fails
  pub only : TellsFitting old → fault ≡ Store DiskFailed
