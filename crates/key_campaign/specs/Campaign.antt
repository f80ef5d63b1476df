-- The ledger of a key campaign, as its machine has it (own)
use Rattle.std.specs.Prelude.{◌≡◌, Bool, true, false, Option, None, Some, IfSome, List, length}
use Rattle.key_campaign.specs.declared.entries.LedgerEntry.{LedgerEntry}
use Rattle.key_campaign.specs.declared.entries.PendingEntry.{PendingEntry}
use Rattle.key_campaign.specs.Entries.{place_count, AreLedgerEntries, with_change, Advances}

-- what stands in its places, whether it is up, and the change that a failed call left pending
pub record Campaign : Type 0 where
  pub entries : List (Option LedgerEntry)
  pub up : Bool
  pub pending : Option PendingEntry

-- a power-up: nothing is pending
abbrev pub powered_ledger : List (Option LedgerEntry) → Campaign
powered_ledger entries = record { entries = entries; up = true; pending = None }

-- a change was made
abbrev pub changed_ledger : PendingEntry → Campaign → Campaign
changed_ledger change c = record c { entries = with_change change c.entries }

-- this change was to be made, and the disk failed
abbrev pub failed_change : PendingEntry → Campaign → Campaign
failed_change change c = record c { up = false; pending = Some change }

-- the disk failed while the ledger powered up
abbrev pub stays_off : Campaign → Campaign
stays_off c = record c { up = false }

-- what holds of a ledger, whether it is up or down
pub record SoundLedger (c : Campaign) : Type 0 where
  pub count : length c.entries ≡ place_count
  pub entries_are : AreLedgerEntries c.entries
  pub settled : c.up ≡ true → c.pending ≡ None
  pub advances : IfSome c.pending (Advances c.entries)
