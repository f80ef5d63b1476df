-- The lemmas that crates above cite.
pub use Rattle.she_kdf.proofs.DerivationByTable.{kdf_by_table_is}
unfoldable pub use Rattle.she_kdf.proofs.DerivationByTable.{kdf_by_table, tabled_out}
pub use Rattle.she_kdf.proofs.DerivationLaws.{IsBlock-kdf}
