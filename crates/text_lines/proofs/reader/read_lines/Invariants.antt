use Rattle.std.proofs.Common.{◌≡◌, ◌-◌, ◌+◌, ◌≤◌, length}
use Rattle.text_lines.specs.Readings.{read_all, read_from}
use Rattle.text_lines.proofs.Rows.{lines_left}
use Rattle.text_lines.proofs.reader.read_lines.Given as goal

-- what the lines from here on give after what was read is what the whole text gives
abbrev pub invariant-loop-at : goal.invariant-loop-at
invariant-loop-at g l = record {
  whole : read_from (g.R.LineReader.means l.reader) l.most l.items.items (lines_left l.text l.number l.at) ≡ read_all (g.R.LineReader.means l.reader) l.most l.text;
  numbered : l.number ≤ l.at + 1;
  inside : l.at ≤ length l.text + 1;
  short : length l.text ≤ 4294967295;
}

abbrev pub decreases-loop-at : goal.decreases-loop-at
decreases-loop-at g l = length l.text - l.at
