-- The lemmas that crates above cite.
pub use Rattle.slot_commands.proofs.OnceLaws.{checked_once, check_clash, no_store_row, same_found, has_store}
pub use Rattle.slot_commands.proofs.GoodLaws.{good_layout, good_number}
