-- The lemmas that crates above cite.
pub use Rattle.flash_calls.proofs.PutLives.{put_there, none_there, put_done}
