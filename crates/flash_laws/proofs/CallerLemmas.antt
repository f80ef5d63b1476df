-- The lemmas that crates above cite.
pub use Rattle.flash_laws.proofs.Copies.{after-append, length-copy}
pub use Rattle.flash_laws.proofs.CutFormats.{no_line, cut_format_lives, cut_format_found, with_head, with_others, with_same, suc≢zero}
pub use Rattle.flash_laws.proofs.Reached.{formatted_lives, later_lives, power_up}
pub use Rattle.flash_laws.proofs.Wear.{next_cases, next_inside}
