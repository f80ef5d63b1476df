-- What the change of a kept bound leaves in a store (own).
use Rattle.std.specs.Prelude.{◌≡◌, ℕ, ◌+◌, ◌<◌, ◌≤◌, false, Option, None, Some, unwrap_or, Result, OnOk, List, [], ◌⊎◌}
use Rattle.cut_disk.specs.Calls.{Rose, Runs}
use Rattle.cell_store.specs.declared.kinds.Layout.{Layout}
use Rattle.cell_store.specs.Store.{Stands}
use Rattle.cell_store.specs.Cells.{CellsState, Puts, FailsPut}
use Rattle.freshness_routes.specs.declared.routes.Direction.{Direction}
use Rattle.freshness_routes.specs.declared.routes.Direction.TheVariants.{Sends, Receives}
use Rattle.freshness_routes.specs.Changes.{bound_due}
use Rattle.freshness_store.specs.Bound.{bound_cell}
use Rattle.freshness_manager.specs.Counters.{SenderCounter, ReceiverCounter, KeepsBound}

-- the change was made: the cell of the new bound was put; if none is due, the store is as it was
abbrev pub MakesChange : ℕ → ℕ → Direction → Option ℕ → CellsState → CellsState → Type 0
MakesChange place id direction None old new = new ≡ old
MakesChange place id direction (Some bound) old new = Puts place (bound_cell id direction bound) old new

-- its put failed; if none is due, none can fail
abbrev pub FailsChange : ℕ → ℕ → Direction → Option ℕ → CellsState → CellsState → Type 0
FailsChange place id direction None old new = ⊥
FailsChange place id direction (Some bound) old new = FailsPut place (bound_cell id direction bound) old new

-- the put of the bound that was due failed
pub record FailsDue (place id : ℕ) (direction : Direction) (change : Option ℕ) (bound : ℕ)
    (old new : CellsState) : Type 0 where
  pub due : change ≡ Some bound
  pub failed : FailsChange place id direction (Some bound) old new
  -- the disk's count of faults
  pub rose : Rose old.disk.faults new.disk.faults

-- what a call under a route leaves of the store, whatever it answers
pub record KeepsRoute {T E : Type 0} (place id : ℕ) (direction : Direction) (bound : ℕ) (old new : CellsState)
    (result : Result T E) : Type 0 where
  -- after Ok no call of the disk failed, and the store isn't broken
  pub faults : OnOk result (new.disk.faults ≡ old.disk.faults)
  pub whole : OnOk result (new.broken ≡ false)
  -- the route's cell has its bound
  pub kept : KeepsBound new.cells place id direction bound
  -- at most six calls of the disk, which arm nothing and cut nothing
  pub runs : Runs [] 6 old.disk new.disk

-- ---- a counter that moved

-- the bound that is due before a sender uses its next freshness, and before a receiver takes this one
abbrev pub due_of_sender : SenderCounter → Option ℕ
due_of_sender tx = bound_due tx.bound tx.reserve (tx.counter + 1)

abbrev pub due_of_receiver : ReceiverCounter → ℕ → Option ℕ
due_of_receiver rx v = bound_due rx.bound rx.reserve v

-- the freshness v above a sender's counter became its counter, and its bound covers it, in memory as in the store
pub record MovesOn (v : ℕ) (before after : SenderCounter) (old new : CellsState) : Type 0 where
  pub next : v ≡ before.counter + 1
  pub counted : after
      ≡ record before { counter = before.counter + 1; bound = unwrap_or (due_of_sender before) before.bound }
  pub covered : v ≤ after.bound
  pub made : MakesChange before.place before.id Sends (due_of_sender before) old new

-- the freshness v became a receiver's counter, and its bound covers it, in memory as in the store
pub record MovesTo (v : ℕ) (before after : ReceiverCounter) (old new : CellsState) : Type 0 where
  pub counted : after ≡ record before { counter = v; bound = unwrap_or (due_of_receiver before v) before.bound }
  pub covered : v ≤ after.bound
  pub made : MakesChange before.place before.id Receives (due_of_receiver before v) old new

-- a counter v that the sender told was taken: one above the receiver's counter became it, with another all is as before
pub record AdvancesTo (v : ℕ) (before after : ReceiverCounter) (old new : CellsState) : Type 0 where
  pub moved : before.counter < v → MovesTo v before after old new
  pub left : v ≤ before.counter → (after ≡ before) × (new ≡ old)

-- it was above the counter, and the put of the bound that was due failed
pub record FailsAdvance (v : ℕ) (before : ReceiverCounter) (bound : ℕ) (old new : CellsState) : Type 0 where
  pub above : before.counter < v
  pub failed : FailsDue before.place before.id Receives (due_of_receiver before v) bound old new

-- the bytes stand for cells that keep the one bound or the other
pub record KeepsEither (layout : Layout) (x : List ℕ) (place id : ℕ) (direction : Direction)
    (bound other : ℕ) : Type 0 where
  pub cells : List (List ℕ)
  pub stands : Stands layout x cells
  pub keeps : KeepsBound cells place id direction bound ⊎ KeepsBound cells place id direction other
