-- The lemmas that crates above cite.
pub use Rattle.can_logs.proofs.LineFindings.{AuditsLine-same, other_as, put_back, line_of, all_lines, line_more}
pub use Rattle.can_logs.proofs.OneFinding.{same_finding}
pub use Rattle.can_logs.proofs.Rising.{Keeps, above, keeps_one}
pub use Rattle.can_logs.proofs.Windows.{HaveWindows, line_with-window}
pub use Rattle.can_logs.proofs.Places.{tests_more, texts_more}
