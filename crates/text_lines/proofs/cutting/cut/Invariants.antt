use Rattle.std.proofs.Common.{◌≡◌, ◌-◌, ◌+◌, ◌≤◌, ◌++◌, length, map}
use Rattle.std.specs.Prelude.{All}
use Rattle.text_lines.specs.Places.{placed_lines_of}
use Rattle.text_lines.specs.Spans.{line_at, EndWithin}
use Rattle.text_lines.proofs.Rows.{lines_from}
use Rattle.text_lines.proofs.cutting.cut.Given as goal

-- the lines so far, and those from here on, are all the lines
abbrev pub invariant-loop-at : goal.invariant-loop-at
invariant-loop-at l = record {
  whole : map (line_at l.text) l.cuts.items ++ lines_from l.text l.number l.at ≡ placed_lines_of l.text;
  within : All (λ cut. EndWithin (length l.text) cut.words) l.cuts.items;
  numbered : l.number ≤ l.at + 1;
  inside : l.at ≤ length l.text + 1;
  short : length l.text ≤ 4294967295;
}

abbrev pub decreases-loop-at : goal.decreases-loop-at
decreases-loop-at l = length l.text - l.at
