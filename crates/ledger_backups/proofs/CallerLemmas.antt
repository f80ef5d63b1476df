-- The lemmas that crates above cite.
pub use Rattle.ledger_backups.proofs.HeldLaws.{held_are, held_few}
pub use Rattle.ledger_backups.proofs.UnitForms.{unit_of}
