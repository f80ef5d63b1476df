use Rattle.std.proofs.Common.{◌≢◌, AllPairs, ap, subst, arith}
use Rattle.std.specs.Option.{is_some}
use Rattle.bus_config.specs.Buses.{ids_sent}
use Rattle.bus_config.proofs.reader.read_bus.Goals as goal

pub returns-in-None-new : goal.returns-in-None-new
returns-in-None-new c =
    let read = c.in_ok-nodes.ensures in
    let root = c.in-Some.ensures in
    absurd (c.in-None-new.ensures (record {
      least = omega (arith, read.counted, root.counted.0);
      most = omega (arith, read.counted, root.counted.1);
      are_nodes = read.new.are_nodes;
      own_names = read.new.own_names;
      few_routes = read.new.few;
      sent_once = subst (λ ns. AllPairs (λ i j. i ≢ j) (ids_sent ns)) c.as_slice.ensures.value (c.sent_again.ensures.once (ap is_some c.in-None-sent_again.is));
    }))
