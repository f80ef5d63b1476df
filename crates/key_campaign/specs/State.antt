-- What a ledger means to a proof: the ledger of the machine, and the store that keeps its entries (own)
use Rattle.std.specs.Prelude.{◌≡◌, true, [], option_map, length, Result, OnOk, IsErrOf}
use Rattle.cut_disk.specs.Calls.{Rose, Runs}
use Rattle.cell_store.specs.Cells.{CellsState}
use Rattle.store_keeping.specs.Keeping.{Keeping, FitsStore, TellsKept, HoldsKept}
use Rattle.key_campaign.specs.Entries.{place_count, with_change}
use Rattle.key_campaign.specs.Campaign.{Campaign, SoundLedger}
use Rattle.key_campaign.specs.declared.faults.LedgerFault.{LedgerFault}
use Rattle.key_campaign.specs.declared.faults.LedgerFault.TheVariants as fault
use Rattle.key_campaign.specs.Cell.{ledger_cells}

pub record LedgerState : Type 0 where
  pub campaign : Campaign
  pub store : CellsState

-- what its store is to keep: the cells of its entries, and those with the pending change
abbrev pub keeping_of : Campaign → Keeping
keeping_of c = record {
  cells = ledger_cells c.entries;
  pending = option_map (λ change. ledger_cells (with_change change c.entries)) c.pending;
  up = c.up;
}

-- if the disk tells its bytes, they fit the ledger
abbrev pub FitsLedger : LedgerState → Type 0
FitsLedger s = FitsStore (keeping_of s.campaign) s.store

-- the disk tells its bytes, and they fit the ledger
abbrev pub TellsLedger : LedgerState → Type 0
TellsLedger s = TellsKept (keeping_of s.campaign) s.store

-- what an issue or a confirmation leaves, whatever it answers: a fault comes only from the disk; at most six calls of
-- the disk, which arm nothing and cut nothing
pub record ServedLedger {T : Type 0} (old new : LedgerState) (result : Result T LedgerFault) : Type 0 where
  pub faulted : IsErrOf result fault.Faulted → Rose old.store.disk.faults new.store.disk.faults
  pub faults : OnOk result (new.store.disk.faults ≡ old.store.disk.faults)
  pub layout : new.store.layout ≡ old.store.layout
  pub runs : Runs [] 6 old.store.disk new.store.disk
  pub fits : FitsLedger old → FitsLedger new
  pub sound : SoundLedger new.campaign

-- what is true of every ledger: it is sound, and while it is up its store has the cells of its entries
pub record IsLedger (c : Campaign) (store : CellsState) : Type 0 where
  pub sound : SoundLedger c
  pub count : length store.cells ≡ place_count
  pub holds : c.up ≡ true → HoldsKept (keeping_of c) store
