-- The lemmas that crates above cite.
pub use Rattle.store_plan.proofs.CutLaws.{applied-none, cut-none}
pub use Rattle.store_plan.proofs.GatedLaws.{applied-cell, applied-head, applied-length, applied-others}
pub use Rattle.store_plan.proofs.LeavingLaws.{cut-leaves, image-put, images-put, images-unchanged}
pub use Rattle.store_plan.proofs.GrowingLaws.{any-count, but-count, cell-apart, count-cells, count-done, count-head, count-same}
pub use Rattle.store_plan.proofs.GrowingLaws.{counts-once, decide-head, ends-kept, erased-none, free-none, growth-cell}
pub use Rattle.store_plan.proofs.GrowingLaws.{growth-cut, growth-done, growth-head, growth-length, growth-others, growth-same}
pub use Rattle.store_plan.proofs.GrowingLaws.{erased-free, head-counted, is-some, put-done, put-same, said-beside, says-once}
