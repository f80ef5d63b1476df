-- the frames so far, and those that are heard in the lines that are left, are all
use Rattle.std.proofs.Common.{◌≡◌, ◌≤◌, ◌-◌, ◌++◌, length, drop}
use Rattle.std.specs.Prelude.{filter_map}
use Rattle.line_stream.specs.Pieces.{log_lines}
use Rattle.locate_commands.specs.Locating.{heard_in}
use Rattle.locate_commands.proofs.frames.FirstFrames.of.Given as goal

abbrev pub invariant-loop-at : goal.invariant-loop-at
invariant-loop-at l = record {
  few : length l.frames.items ≤ 16;
  all : filter_map (heard_in l.map l.place) (log_lines l.log)
      ≡ l.frames.items ++ filter_map (heard_in l.map l.place) (log_lines (drop l.at l.log));
}

abbrev pub decreases-loop-at : goal.decreases-loop-at
decreases-loop-at l = length l.log - l.at
