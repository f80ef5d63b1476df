-- one line more for each line feed so far
use Rattle.std.proofs.Common.{◌≡◌, ◌≤◌, ◌+◌, length, take}
use Rattle.std.specs.Prelude.{filter}
use Rattle.text_lines.specs.Lines.{is_line_feed}
use Rattle.watch_expect.proofs.texts.line_at.Given as goal

abbrev pub invariant-loop-place : goal.invariant-loop-place
invariant-loop-place l = record {
  line_is : l.line ≡ length (filter is_line_feed (take l.place l.text)) + 1;
  few : l.line ≤ l.place + 1;
}
