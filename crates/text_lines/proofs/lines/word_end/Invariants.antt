use Rattle.std.proofs.Common.{◌-◌, ◌≤◌, length}
use Rattle.text_lines.specs.Lines.{ends_word}
use Rattle.text_lines.proofs.Stops.{NoneFrom}
use Rattle.text_lines.proofs.lines.word_end.Given as goal

-- no byte so far ends a word
abbrev pub invariant-loop-at : goal.invariant-loop-at
invariant-loop-at l = record {
  none : NoneFrom ends_word l.text l.start l.at;
  behind : l.start ≤ l.at;
  inside : l.at ≤ length l.text;
}

abbrev pub decreases-loop-at : goal.decreases-loop-at
decreases-loop-at l = length l.text - l.at
