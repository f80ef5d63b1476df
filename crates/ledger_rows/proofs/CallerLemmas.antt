-- The lemmas that crates above cite.
pub use Rattle.ledger_rows.proofs.Counters.{greatest_permuted, any_permuted, unconfirmed_permuted, refuses_permuted, remark_permuted, refuses_remark_permuted, shown_permuted, lists_permuted}
