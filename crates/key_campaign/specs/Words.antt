-- The words in which the contracts of a ledger are written, from below and of this crate
pub use Rattle.cut_disk.specs.Armed.{ArmsStop, ArmsFail}
pub use Rattle.cut_disk.specs.Calls.{Rose, Runs}
pub use Rattle.cell_store.specs.Reading.{CutAndRead}
pub use Rattle.cell_store.specs.Cells.{Settled}
pub use Rattle.key_slots.specs.Authority.{is_pair}
pub use Rattle.key_campaign.specs.Entries.{place_count, greatest_counter, IsUnit, entry_for, last_issued, Advances}
pub use Rattle.key_campaign.specs.Campaign.{powered_ledger, changed_ledger, failed_change, SoundLedger}
pub use Rattle.key_campaign.specs.Steps.{HasNoPlace, RefusesConfirm, told_entry, LedgerStep}
pub use Rattle.key_campaign.specs.Cell.{HoldEntries, FirstBadEntry}
pub use Rattle.key_campaign.specs.Powering.{LedgerComesUp, LedgerStaysDown}
pub use Rattle.key_campaign.specs.State.{FitsLedger, TellsLedger, ServedLedger}
pub use Rattle.key_campaign.specs.Lines.{issued_line, confirmed_line, ledger_cut_line}
pub use Rattle.key_campaign.specs.Entries.{IsEntry, entry_at}
pub use Rattle.key_campaign.specs.Adopting.{AdoptStep}
