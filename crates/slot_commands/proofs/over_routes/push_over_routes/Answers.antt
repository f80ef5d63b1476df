use Rattle.std.proofs.lemmas.Result.{on_ok_weaker}
use Rattle.slot_commands.proofs.CellLaws.{finds_slot, finds_no_route, no_route_at}
use Rattle.slot_commands.proofs.over_routes.push_over_routes.Goals as goal

pub returns-then-place-lt-SLOT_COUNT : goal.returns-then-place-lt-SLOT_COUNT
returns-then-place-lt-SLOT_COUNT c =
    on_ok_weaker c.push_by_itself.result (λ d. finds_slot _ _ _ _ _ c.if-place-lt-SLOT_COUNT.true d) c.push_by_itself.ensures

pub returns-in-None : goal.returns-in-None
returns-in-None c =
    on_ok_weaker c.push_bad.result (λ d. finds_no_route _ _ _ _ _ c.if-place-lt-SLOT_COUNT.false (no_route_at _ _ _ c.from.ensures c.in-None.ensures.lookup.0) d) c.push_bad.ensures
