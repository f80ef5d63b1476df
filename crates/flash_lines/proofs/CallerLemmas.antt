-- The lemmas that crates above cite.
pub use Rattle.flash_lines.proofs.LineLaws.{same_sizes, one_line, one_told}
