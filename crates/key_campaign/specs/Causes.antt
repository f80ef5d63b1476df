-- Why a ledger isn't powered up (own)
use Rattle.std.specs.Prelude.{◌≡◌, ℕ}
use Rattle.cell_store.specs.Cells.{CellsState, RereadCause, StandsNow}
use Rattle.key_campaign.specs.Cell.{FirstBadEntry}
use Rattle.key_campaign.specs.declared.faults.LedgerCut.{LedgerCut}
use Rattle.key_campaign.specs.declared.faults.LedgerCut.TheVariants as cut

-- no call of the disk failed, its bytes stand for the cells, and this is the first bad cell
pub record ReadBad (old new : CellsState) (bad : ℕ) : Type 0 where
  pub faults : new.disk.faults ≡ old.disk.faults
  pub stands : StandsNow new
  pub first : FirstBadEntry new.cells bad

-- the store isn't read anew; or it is, and its cells are no ledger's
abbrev pub LedgerCutCause : CellsState → CellsState → LedgerCut → Type 0
LedgerCutCause old new (cut.Store fault) = RereadCause old new fault
LedgerCutCause old new (cut.BadEntry bad) = ReadBad old new bad
