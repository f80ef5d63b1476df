-- The lemmas that crates above cite.
pub use Rattle.any_cells.proofs.CountingLaws.{counts_once}
pub use Rattle.any_cells.proofs.LookingLaws.{found-once}
pub use Rattle.any_cells.proofs.MigratingLaws.{in-two}
pub use Rattle.any_cells.proofs.OpeningLaws.{only-image, unformed-same}
