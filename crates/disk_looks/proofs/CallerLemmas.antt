-- The lemmas that crates above cite.
pub use Rattle.disk_looks.proofs.SeenLaws.{first_begins, first_room, one_not_two, zeros_headless, zeros_none}
