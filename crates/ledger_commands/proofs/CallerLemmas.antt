-- The lemmas that crates above cite.
pub use Rattle.ledger_commands.proofs.BytesLaws.{holds_or_lacks, one_holds}
pub use Rattle.ledger_commands.proofs.EntryLines.{all_places, is_place, line_added, places_more}
pub use Rattle.ledger_commands.proofs.FileLaws.{lacks_5, lacks_7, lacks_8, lacks_9, lacks_fault, lacks_long, lacks_none, lacks_offered}
pub use Rattle.ledger_commands.proofs.FileLaws.{lacks_read, lacks_status, read_no_fault, read_not_long, read_not_none}
