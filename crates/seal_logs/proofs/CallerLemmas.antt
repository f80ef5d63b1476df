-- The lemmas that crates above cite.
pub use Rattle.seal_logs.proofs.ChainLaws.{chain_at, one_deed}
pub use Rattle.seal_logs.proofs.OneEnd.{chain_one, copy_one, makes_one}
