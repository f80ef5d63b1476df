-- The lemmas that crates above cite.
pub use Rattle.flash_log.proofs.GoingLaws.{goes_then, goes_none, goes_one, lives_then, others_then}
pub use Rattle.flash_log.proofs.TakingLaws.{ends_of, answer_of, ends_answer, taken_same, taken_snoc, taken_rest, told, taken_looks, spells_shift, told_spells, copy_snoc}
pub use Rattle.flash_log.proofs.BankLaws.{no_copy, copy_odd, copy_ends, taken_part}
pub use Rattle.flash_log.proofs.FreeLaws.{head_looks, no_head, as_answer, not_not, one_look, look_before, look_same, reads_more}
pub use Rattle.flash_log.proofs.ScanLaws.{scanned_none, scanned_stays, scanned_new, scanned_part, scanned_first, scanned_off, scanned_past, past_of, scan_found, scan_none, scan_tie, free_same, free_judged, heads_more}
pub use Rattle.flash_log.proofs.StoreLaws.{goes_on}
pub use Rattle.flash_log.proofs.PutLaws.{possible_split, no_change, store_found}
