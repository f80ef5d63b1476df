-- The lemmas that crates above cite.
pub use Rattle.cell_store.proofs.BankLaws.{part-part}
pub use Rattle.cell_store.proofs.CellsLaws.{fresh_images, settled_tells}
pub use Rattle.cell_store.proofs.CopiesLaws.{SameOutside-put, cell_at-kept, cell_at-others, cell_at-put}
pub use Rattle.cell_store.proofs.CopiesLaws.{cell_at-unfinished, side_bounds}
pub use Rattle.cell_store.proofs.FormatLaws.{splice_more}
pub use Rattle.cell_store.proofs.FreshLaws.{Sized, cell_at-fresh, length-fresh_cell, length-fresh_cells, length-pairs}
pub use Rattle.cell_store.proofs.FreshStands.{length-fresh_log}
pub use Rattle.cell_store.proofs.GateLaws.{closed-already, closed-write, closing, either-outside, filling}
pub use Rattle.cell_store.proofs.GateLaws.{lasts-outside, opened, opening, splice-gate}
pub use Rattle.cell_store.proofs.KeptLaws.{held-stands, stands-held, twin_put-counts}
pub use Rattle.cell_store.proofs.LayoutLaws.{SameOutside-after, SameOutside-refl, SameOutside-splice, SameOutside-widen}
pub use Rattle.cell_store.proofs.LayoutLaws.{part-same, part-splice}
pub use Rattle.cell_store.proofs.MovingLaws.{below-same, kept-same}
pub use Rattle.cell_store.proofs.PutLaws.{put_stands}
pub use Rattle.cell_store.proofs.ReadingLaws.{damaged-of, failed_after, failed_more, halves, kept-of, reads_join}
pub use Rattle.cell_store.proofs.ReadingLaws.{reads_more, reads_none}
pub use Rattle.cell_store.proofs.Results.{OnErr-from}
pub use Rattle.cell_store.proofs.Slices.{splice-all, splice-none}
pub use Rattle.cell_store.proofs.StaysLaws.{stays_join, stays_none}
pub use Rattle.cell_store.proofs.StoreLaws.{header-kind, header-not_blank, header-number, length-header, stands-whole}
pub use Rattle.cell_store.proofs.StoreLaws.{stands_once}
pub use Rattle.cell_store.proofs.WritingLaws.{torn-outside}
