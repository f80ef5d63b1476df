-- What a call that is no cut and arms nothing leaves of the store
use Rattle.std.specs.Prelude.{◌≡◌, []}
use Rattle.cut_disk.specs.Calls.{Runs}
use Rattle.secoc_node.specs.State.{NodeState, FitsNow}

-- at most six calls of the disk, none of them marked, and what fitted fits
pub record LeavesStore (old new : NodeState) : Type 0 where
  pub layout : new.store.layout ≡ old.store.layout
  pub runs : Runs [] 6 old.store.disk new.store.disk
  pub fits : FitsNow old → FitsNow new
