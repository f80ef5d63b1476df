use Rattle.std.proofs.Common.{◌≡◌, Bool, sym, ◌∙◌, rules, tests}
use Rattle.std.specs.Prelude.{◌==◌}
use Rattle.std.specs.List.{list_any}
use Rattle.std.proofs.lemmas.Iterator.{YieldsList-from_slice}
use Rattle.std.proofs.lemmas.Iterator.Search.{any_from_yields_List}
use Rattle.freshness_routes.specs.declared.routes.Route.{Route}
use Rattle.bus_config.proofs.RouteRows.{not_taken}
use Rattle.bus_config.proofs.routes.is_taken.Goals as goal

pub returns : goal.returns
returns c =
    let routes = c.args.routes.now in
    let test : Route → Bool = λ r. r.id == c.args.id in
    let found : c.any.result ≡ list_any test routes = any_from_yields_List test _ _ c.any.result c.any.ensures.ran (YieldsList-from_slice routes cc) (λ x b q k. search (rules, tests)) in
    record { value = found; free = λ f. not_taken routes c.args.id (sym found ∙ f) }
