-- The lemmas that crates above cite.
pub use Rattle.watch_commands.proofs.Going.{Watched-none, Watched-text, WatchedMore, WatchedMore-none, WatchedMore-more}
pub use Rattle.watch_commands.proofs.Ports.{finds_lines, text_at_end}
pub use Rattle.watch_commands.proofs.WatchPromises.{asks_no_text}
