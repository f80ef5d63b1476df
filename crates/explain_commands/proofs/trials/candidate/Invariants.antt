-- no freshness so far has the low byte
use Rattle.std.proofs.Common.{◌≡◌, ◌+◌}
use Rattle.std.specs.Prelude.{find, None}
use Rattle.std.specs.List.{range_with_len}
use Rattle.explain_commands.specs.Trials.{has_low}
use Rattle.explain_commands.proofs.trials.candidate.Given as goal

abbrev pub invariant-loop-step : goal.invariant-loop-step
invariant-loop-step l = find (has_low l.low) (range_with_len (l.counter + 1) l.step) ≡ None
