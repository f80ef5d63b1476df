use Rattle.std.proofs.Common.{◌≤◌, length, sym, ap, subst}
use Rattle.freshness_routes.specs.Config.{IsConfig}
use Rattle.bus_config.specs.Buses.{most_routes}
use Rattle.bus_config.proofs.nodes.next_node.Goals as goal

pub returns-in-Some-new-clause-new : goal.returns-in-Some-new-clause-new
returns-in-Some-new-clause-new c =
    let head = c.in-Some.ensures.new in
    let made = c.in-Some-new.ensures in
    record {
      is_node = record { named = head.named; config = subst IsConfig (sym made.1) made.0 };
      new = head.new;
      few =
          subst (λ routes. length routes ≤ most_routes c.args.version) (sym (ap (λ config. config.routes) made.1))
          (subst (λ n. n ≤ most_routes c.args.version) (sym c.in_ok-routes.ensures.counted) head.few);
    }
