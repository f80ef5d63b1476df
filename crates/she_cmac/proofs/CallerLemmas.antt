-- The lemmas that crates above cite.
pub use Rattle.she_cmac.proofs.CmacByTable.{cmac_by_table_is}
unfoldable pub use Rattle.she_cmac.proofs.CmacByTable.{cmac_by_table, tabled_chain, tabled_last, tabled_zero}
pub use Rattle.she_cmac.proofs.CmacLaws.{IsBlock-cmac, length-cmac}
