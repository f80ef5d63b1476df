-- the lines so far are filled in, and those that are left are to be
use Rattle.std.proofs.Common.{◌≡◌, ◌≤◌, ◌+◌, ◌-◌, ◌++◌, ◌&&◌, length, drop}
use Rattle.line_stream.specs.Pieces.{log_lines}
use Rattle.locate_commands.specs.Locating.{fresh_by, filled, filled_from, are_settled}
use Rattle.locate_commands.proofs.filling.fill.Given as goal

abbrev pub invariant-loop-at : goal.invariant-loop-at
invariant-loop-at l = record {
  number_is : l.number ≤ l.at + 1;
  text_is : filled (fresh_by l.finder) l.text
      ≡ l.filled.text.items ++ filled_from (fresh_by l.finder) l.number (log_lines (drop l.at l.text));
  settled_is : are_settled (fresh_by l.finder) 1 (log_lines l.text)
      ≡ (l.filled.is_settled && are_settled (fresh_by l.finder) l.number (log_lines (drop l.at l.text)));
}

abbrev pub decreases-loop-at : goal.decreases-loop-at
decreases-loop-at l = length l.text - l.at
