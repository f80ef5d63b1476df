-- What a power cut of a ledger leaves (own)
use Rattle.std.specs.Prelude.{◌≡◌, Some}
use Rattle.cut_disk.specs.State.{Told}
use Rattle.cut_disk.specs.Calls.{Grows}
use Rattle.cell_store.specs.declared.faults.Reread.TheVariants.{DiskFailed}
use Rattle.cell_store.specs.Cells.{Settled, StandsNow}
use Rattle.key_campaign.specs.declared.faults.LedgerCut.{LedgerCut}
use Rattle.key_campaign.specs.declared.faults.LedgerCut.TheVariants.{Store}
use Rattle.key_campaign.specs.Campaign.{powered_ledger, stays_off}
use Rattle.key_campaign.specs.Cell.{HoldEntries}
use Rattle.key_campaign.specs.State.{LedgerState, TellsLedger}
use Rattle.key_campaign.specs.Causes.{LedgerCutCause}

-- the ledger is up again
pub record LedgerComesUp (old new : LedgerState) : Type 0 where
  -- with nothing pending
  pub up : new.campaign ≡ powered_ledger new.campaign.entries
  -- its entries are those of the cells, and bytes that are told stand for these
  pub held : HoldEntries new.store.cells new.campaign.entries
  pub stands : StandsNow new.store
  pub settled : (t : Told) → old.store.disk.told ≡ Some t → Settled new.store
  -- no call of the disk failed, and a told past has grown
  pub faults : new.store.disk.faults ≡ old.store.disk.faults
  pub grows : Grows old.store.disk new.store.disk

-- the ledger stays down, for this fault
pub record LedgerStaysDown (old new : LedgerState) (fault : LedgerCut) : Type 0 where
  -- with its entries and its pending change
  pub refused : new.campaign ≡ stays_off old.campaign
  pub cause : LedgerCutCause old.store new.store fault
  -- over a disk that fitted the ledger only the disk fails
  pub only : TellsLedger old → fault ≡ Store DiskFailed
