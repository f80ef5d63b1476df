use Rattle.std.proofs.Common.{sym}
use Rattle.gateway_commands.proofs.running.print_turns.Goals as goal

pub returns : goal.returns
returns g c = record {
  start = c.of_good_pairs-gateway.result;
  now = c.print_run-printed.new.machine;
  over_node = c.of_good_pairs-gateway.ensures.over;
  pairs_are = c.of_good_pairs-gateway.ensures.pairs;
  printed = c.print_run-printed.ensures.printed;
  handed_back = sym c.release.ensures;
}
