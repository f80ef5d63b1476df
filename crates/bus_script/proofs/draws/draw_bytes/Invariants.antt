use Rattle.std.proofs.Common.{◌≡◌}
use Rattle.bus_script.specs.Draws.{after_draws, bytes_drawn}
use Rattle.bus_script.proofs.draws.draw_bytes.Given as goal

abbrev pub invariant-loop-done : goal.invariant-loop-done
invariant-loop-done l = record {
  bytes : l.bytes.items ≡ bytes_drawn l.initial.draws l._done;
  state : l.draws ≡ after_draws l.initial.draws l._done;
}
