-- The lemmas that crates above cite.
pub use Rattle.explain_commands.proofs.Searching.{none_more, found_within}
