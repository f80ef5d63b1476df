-- The lemmas that crates above cite.
pub use Rattle.store_growing.proofs.FirstCauses.{a_store_that_can_grow_is_not_refused, can_or_cannot, refused_once, small_told}
pub use Rattle.store_growing.proofs.HeaderFacts.{Decided, bytes_same, one_stands, stands_one}
