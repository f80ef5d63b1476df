-- The lemmas that crates above cite.
pub use Rattle.flash_images.proofs.PutLaws.{writes_once}
pub use Rattle.flash_images.proofs.LeavingLaws.{call-leaves, call-done}
