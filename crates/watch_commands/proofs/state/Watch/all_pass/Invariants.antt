-- each line of the map so far passes
use Rattle.std.proofs.Common.{◌≡◌}
use Rattle.std.specs.List.{list_all, range_with_len}
use Rattle.watch_commands.specs.WatchTotals.{passes_at}
use Rattle.watch_commands.specs.States.{totals_in}
use Rattle.watch_commands.proofs.state.Watch.all_pass.Given as goal

abbrev pub invariant-loop-place : goal.invariant-loop-place
invariant-loop-place l = l.each ≡ list_all (passes_at l.self.mapping (totals_in l.self)) (range_with_len 0 l.place)
