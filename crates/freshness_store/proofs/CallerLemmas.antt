-- The lemmas that crates above cite.
pub use Rattle.freshness_store.proofs.CellLaws.{no_slot, one_bound}
