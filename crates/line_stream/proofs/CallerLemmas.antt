-- The lemmas that crates above cite.
pub use Rattle.line_stream.proofs.Cutting.{HasNoFeed, one_line, cut_more, no_feed-front, through_feed, kept_whole, kept_long}
pub use Rattle.line_stream.proofs.Keeping.{TakesLines-keeps, Paused-keeps}
pub use Rattle.line_stream.proofs.Tellings.{told_more, puts}
