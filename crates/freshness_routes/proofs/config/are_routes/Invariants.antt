use Rattle.std.proofs.Common.{ℕ, ◌<◌, get_or}
use Rattle.freshness_routes.specs.declared.routes.Route.{Route}
use Rattle.freshness_routes.specs.Config.{IsRoute}
use Rattle.freshness_routes.proofs.config.are_routes.Given as goal

abbrev pub invariant-loop-route : goal.invariant-loop-route
invariant-loop-route l = (k : ℕ) (d : Route) → k < l.route-index → IsRoute (get_or l.routes k d)
