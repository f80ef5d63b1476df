-- The ledger that a disk has, or why it has none (own)
use Rattle.std.specs.Prelude.{◌≡◌, ◌⊎◌, ℕ, ◌≤◌, Option, Some, List, [], length}
use Rattle.cut_disk.specs.State.{DiskState, Told}
use Rattle.cut_disk.specs.Images.{firm}
use Rattle.cut_disk.specs.Calls.{Rose, Runs, AsBefore}
use Rattle.cell_store.specs.declared.kinds.Kind.TheVariants.{Twin}
use Rattle.cell_store.specs.declared.kinds.Version.TheVariants.{One}
use Rattle.cell_store.specs.declared.kinds.Layout.{Layout}
use Rattle.cell_store.specs.declared.faults.StoreFault.TheVariants as store
use Rattle.cell_store.specs.Layout.{layout}
use Rattle.cell_store.specs.Store.{HasHeader, Stands, FirstDamaged, store_size}
use Rattle.any_cells.specs.Looking.{IsBlank}
use Rattle.any_cells.specs.Opening.{open_calls, NoStoreOpened}
use Rattle.store_keeping.specs.DiskTurns.{OpenedDisk}
use Rattle.key_campaign.specs.declared.entries.LedgerEntry.{LedgerEntry}
use Rattle.key_campaign.specs.Entries.{place_count, no_entries, AreLedgerEntries}
use Rattle.key_campaign.specs.Campaign.{powered_ledger, SoundLedger}
use Rattle.key_campaign.specs.Cell.{ledger_cells, FirstBadEntry}
use Rattle.key_campaign.specs.State.{LedgerState, TellsLedger}
use Rattle.campaign_commands.specs.declared.opening.NoLedgerCause.{NoLedgerCause}
use Rattle.campaign_commands.specs.declared.opening.NoLedgerCause.TheVariants.{Store, BadEntry}

-- a ledger lies in a twin store of version 1
abbrev pub ledger_layout : Layout
ledger_layout = layout Twin One

-- the bytes that it needs
abbrev pub ledger_size : ℕ
ledger_size = store_size ledger_layout place_count

-- the most calls of the disk until it is open
abbrev pub calls_to_open : ℕ
calls_to_open = open_calls Twin place_count

-- the first 32 bytes are zero
abbrev pub HasNoHeader : List ℕ → Type 0
HasNoHeader x = IsBlank One x

-- the bytes stand for these entries
abbrev pub StandsForEntries : List ℕ → List (Option LedgerEntry) → Type 0
StandsForEntries x entries = Stands ledger_layout x (ledger_cells entries)

-- if the disk tells its bytes, these are the entries that they stand for, or none if the first 32 bytes are zero
abbrev pub StartsFrom : DiskState → List (Option LedgerEntry) → Type 0
StartsFrom before entries = (t : Told) → before.told ≡ Some t
    → (HasNoHeader t.bytes → entries ≡ no_entries) × ((HasNoHeader t.bytes → ⊥) → StandsForEntries t.bytes entries)

-- the disk tells its bytes, none of them loose
pub record TellsFirm (disk : DiskState) : Type 0 where
  pub bytes : List ℕ
  pub told : disk.told ≡ Some (firm bytes)

-- a ledger is up over the disk, with what it had, or with no entries if it was blank
pub record LedgerOpened (before : DiskState) (l : LedgerState) : Type 0 where
  pub up : l.campaign ≡ powered_ledger l.campaign.entries
  pub sound : SoundLedger l.campaign
  pub room : ledger_size ≤ before.size
  pub laid_out : l.store.layout ≡ ledger_layout
  pub opened : OpenedDisk calls_to_open before l.store.disk
  pub starts : StartsFrom before l.campaign.entries
  pub tells : TellsFirm before → TellsLedger l

-- why bytes aren't those of a ledger
abbrev pub IsNoLedger : List ℕ → NoLedgerCause → Type 0
IsNoLedger x (Store store.NotFormatted) = (HasNoHeader x → ⊥) × (HasHeader ledger_layout place_count x → ⊥)
IsNoLedger x (Store (store.Damaged i)) =
    HasHeader ledger_layout place_count x × FirstDamaged ledger_layout x place_count i
IsNoLedger x (BadEntry bad) =
    (cells : List (List ℕ)) × (length cells ≡ place_count) × Stands ledger_layout x cells × FirstBadEntry cells bad
IsNoLedger x _ = ⊥

-- the store was read, no call failed, and this is the first bad entry of what it holds
pub record FindsBadEntry (before after : DiskState) (bad : ℕ) : Type 0 where
  pub room : ledger_size ≤ before.size
  pub reads : AsBefore calls_to_open before after
  pub bytes : (t : Told) → before.told ≡ Some t → (HasNoHeader t.bytes → ⊥) × IsNoLedger t.bytes (BadEntry bad)

-- why there is no ledger, by what was known of the disk before and after
abbrev pub LacksLedger : DiskState → DiskState → NoLedgerCause → Type 0
LacksLedger before after (Store fault) = NoStoreOpened ledger_layout (ledger_cells no_entries) before after fault
LacksLedger before after (BadEntry bad) = FindsBadEntry before after bad

-- the disk tells bytes that stand for no entries
pub record StandsForNone (disk : DiskState) : Type 0 where
  pub now : Told
  pub told : disk.told ≡ Some now
  pub stands : StandsForEntries now.bytes no_entries

-- told bytes whose first 32 aren't all zero, and their loose marks, are as they were
abbrev pub KeepsBytes : DiskState → DiskState → Type 0
KeepsBytes before after = (t : Told) → before.told ≡ Some t → (HasNoHeader t.bytes → ⊥) → after.told ≡ before.told

-- the disk is as before, except for reads; or its count of faults rose
pub record LeavesRead (before after : DiskState) : Type 0 where
  pub left : AsBefore calls_to_open before after ⊎ Rose before.faults after.faults
  pub kept : KeepsBytes before after

-- the disk is as before, except for reads; or it stands for no entries; or its count of faults rose
pub record LeavesNone (before after : DiskState) : Type 0 where
  pub runs : Runs [] calls_to_open before after
  pub left : AsBefore calls_to_open before after ⊎ StandsForNone after ⊎ Rose before.faults after.faults
  pub kept : KeepsBytes before after

-- so it is if there was no memory to open a ledger, or for the text that tells why there is none; and then the disk
-- didn't fail
abbrev pub LeftWithoutMemory : DiskState → DiskState → Type 0
LeftWithoutMemory before after = LeavesNone before after × (after.faults ≡ before.faults)

-- the bytes stand for the entries of a ledger
pub record HasEntries (x : List ℕ) : Type 0 where
  pub entries : List (Option LedgerEntry)
  pub count : length entries ≡ place_count
  pub are : AreLedgerEntries entries
  pub stands : StandsForEntries x entries

-- the disk tells its bytes, there are enough, and they are blank or those of a ledger
pub record HasLedger (disk : DiskState) : Type 0 where
  pub now : Told
  pub told : disk.told ≡ Some now
  pub room : ledger_size ≤ disk.size
  pub is : HasNoHeader now.bytes ⊎ HasEntries now.bytes
