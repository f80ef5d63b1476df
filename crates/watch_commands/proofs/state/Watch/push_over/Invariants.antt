-- what is more than it may be of the lines so far was added
use Rattle.std.proofs.Common.{◌≡◌, ◌≤◌, ◌+◌, ◌*◌, ◌++◌, length}
use Rattle.std.specs.List.{flat_map, range_with_len}
use Rattle.watch_commands.specs.WatchTotals.{line_over_at}
use Rattle.watch_commands.specs.States.{totals_in}
use Rattle.watch_commands.proofs.state.Watch.push_over.Given as goal

abbrev pub invariant-loop-place : goal.invariant-loop-place
invariant-loop-place l = record {
  so_far : l.self ≡ record l.initial.self {
    text = l.initial.self.text ++ flat_map (line_over_at l.initial.self.mapping (totals_in l.initial.self)) (range_with_len 0 l.place);
  };
  room : length l.self.text ≤ 142048 + 1060 * l.place;
}
