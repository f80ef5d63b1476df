-- The lemmas that crates above cite.
pub use Rattle.secoc_node.proofs.CellsLaws.{length-CellsOf}
pub use Rattle.secoc_node.proofs.FirstCells.{first_is_kept}
pub use Rattle.secoc_node.proofs.FitsLaws.{FoundCells, told_before}
pub use Rattle.secoc_node.proofs.KeptLaws.{kept_changed, kept_of_sound, kept_once, no_bad_bound, no_bad_slot}
