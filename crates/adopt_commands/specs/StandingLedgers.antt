-- Why no ledger stands on a disk that is only read: one that is to be there isn't made (own)
use Rattle.std.specs.Prelude.{◌≡◌, ◌≢◌, ◌<◌, ◌≤◌, ℕ, Some, List, [], length}
use Rattle.cut_disk.specs.State.{DiskState, Told}
use Rattle.cut_disk.specs.Calls.{Rose, Runs}
use Rattle.cell_store.specs.declared.faults.StoreFault.TheVariants as store
use Rattle.cell_store.specs.Store.{HasHeader, Stands, FirstDamaged}
use Rattle.key_campaign.specs.Entries.{place_count}
use Rattle.key_campaign.specs.Cell.{FirstBadEntry}
use Rattle.campaign_commands.specs.declared.opening.NoLedgerCause.{NoLedgerCause}
use Rattle.campaign_commands.specs.declared.opening.NoLedgerCause.TheVariants.{Store, BadEntry}
use Rattle.campaign_commands.specs.Opening.{ledger_layout, ledger_size, calls_to_open}

-- the bytes have the header of another store, or none, also if they are all zero; or they are a ledger's, and damaged;
-- or a cell is no entry
abbrev pub NoneStands : List ℕ → NoLedgerCause → Type 0
NoneStands x (Store store.NotFormatted) = HasHeader ledger_layout place_count x → ⊥
NoneStands x (Store (store.Damaged i)) =
    HasHeader ledger_layout place_count x × FirstDamaged ledger_layout x place_count i
NoneStands x (BadEntry bad) =
    (cells : List (List ℕ)) × (length cells ≡ place_count) × Stands ledger_layout x cells × FirstBadEntry cells bad
NoneStands x _ = ⊥

-- no call of the disk failed, and its told bytes are so
abbrev pub TellsNoneStands : DiskState → DiskState → NoLedgerCause → Type 0
TellsNoneStands before after cause =
    (after.faults ≡ before.faults) × ((t : Told) → before.told ≡ Some t → NoneStands t.bytes cause)

abbrev pub StandingCause : DiskState → DiskState → NoLedgerCause → Type 0
StandingCause before after (Store store.TooSmall) = (before.size < ledger_size) × (after ≡ before)
StandingCause before after (Store store.Memory) = after.faults ≡ before.faults
StandingCause before after (Store store.DiskFailed) = Rose before.faults after.faults
StandingCause before after cause = TellsNoneStands before after cause

-- no ledger stands there, for this cause: there was room except for `TooSmall`, and the bytes are as they were
pub record LacksStanding (before after : DiskState) (cause : NoLedgerCause) : Type 0 where
  pub room : cause ≢ Store store.TooSmall → ledger_size ≤ before.size
  pub runs : Runs [] calls_to_open before after
  pub kept : after.told ≡ before.told
  pub why : StandingCause before after cause
