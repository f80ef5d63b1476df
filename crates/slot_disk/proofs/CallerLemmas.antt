-- The lemmas that crates above cite.
pub use Rattle.slot_disk.proofs.CellLaws.{one_list, one_slot}
