-- Why a store is no node's, and why a node isn't powered up
use Rattle.std.specs.Prelude.{◌≡◌, ℕ, List}
use Rattle.slot_disk.specs.Cell.{FirstBadSlot}
use Rattle.freshness_routes.specs.declared.routes.Route.{Route}
use Rattle.cell_store.specs.Cells.{CellsState, RereadCause, StandsNow}
use Rattle.secoc_node.specs.Cells.{SlotsAndBounds, SlotsButNoBound}
use Rattle.secoc_node.specs.declared.faults.AttachFault.{AttachFault}
use Rattle.secoc_node.specs.declared.faults.AttachFault.TheVariants as attach
use Rattle.secoc_node.specs.declared.faults.CutFault.{CutFault}
use Rattle.secoc_node.specs.declared.faults.CutFault.TheVariants as cut

-- the lowest cell of a slot that is no slot's; or the slots are there, and the lowest cell of a bound that is none of
-- its route; out of memory comes only if all of them are there
abbrev pub AttachCause : List Route → List (List ℕ) → AttachFault → Type 0
AttachCause routes cells (attach.BadSlot slot) = FirstBadSlot cells slot
AttachCause routes cells (attach.BadBound place) = SlotsButNoBound routes cells place
AttachCause routes cells attach.Memory = SlotsAndBounds routes cells

-- the same of cells that were read anew
abbrev pub LifeCause : List Route → List (List ℕ) → CutFault → Type 0
LifeCause routes cells (cut.Store fault) = ⊥
LifeCause routes cells (cut.BadSlot slot) = FirstBadSlot cells slot
LifeCause routes cells (cut.BadBound place) = SlotsButNoBound routes cells place

-- no call of the disk failed, and its bytes stand for the cells
pub record WasRead (old new : CellsState) : Type 0 where
  pub faults : new.disk.faults ≡ old.disk.faults
  pub stands : StandsNow new

-- the store isn't read anew; or it is, from bytes that stand for its cells, and these are no node's with these routes
abbrev pub CutCause : List Route → CellsState → CellsState → CutFault → Type 0
CutCause routes old new (cut.Store fault) = RereadCause old new fault
CutCause routes old new (cut.BadSlot slot) = WasRead old new × FirstBadSlot new.cells slot
CutCause routes old new (cut.BadBound place) = WasRead old new × SlotsButNoBound routes new.cells place
