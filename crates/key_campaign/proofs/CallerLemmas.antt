-- The lemmas that crates above cite.
pub use Rattle.key_campaign.proofs.Adoptions.{adopted_keeps, adopted_reaches, adopted_sound}
pub use Rattle.key_campaign.proofs.CellLaws.{one_ledger}
pub use Rattle.key_campaign.proofs.Changes.{AreLedgerEntries-change}
pub use Rattle.key_campaign.proofs.CutLaws.{none_bad}
pub use Rattle.key_campaign.proofs.EntryPlaces.{at_place, inside_of, is_of_same, none_of, place_for_most, unknown_of}
pub use Rattle.key_campaign.proofs.NoEntries.{no_entries-held, no_entries-zeros}
pub use Rattle.key_campaign.proofs.SoundSteps.{advances_made, pending_advances, sound_failed, sound_made, sound_off}
