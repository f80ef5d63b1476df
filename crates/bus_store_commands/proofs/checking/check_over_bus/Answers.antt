use Rattle.std.proofs.lemmas.Result.{err_from_is_err_and}
use Rattle.bus_store_commands.proofs.CheckPhases.{check_good, check_bad, check_refused}
use Rattle.bus_store_commands.proofs.checking.check_over_bus.Goals as goal

pub returns-in_err-text-clause-refused : goal.returns-in_err-text-clause-refused
returns-in_err-text-clause-refused c =
    let p = err_from_is_err_and c.from_residual.result c.from_residual.ensures.1 in
    rw (p.1, p.2) (check_refused _ _ _ c.in_err-text.ensures.refused)

pub returns-then-good-clause-done : goal.returns-then-good-clause-done
returns-then-good-clause-done c =
    check_good _ _ _ _ _ _ c.wanted_store-wanted.ensures c.node_routes-routes.ensures c.in_ok-text.ensures.checked c.if-good.true

pub returns-else-good-clause-done : goal.returns-else-good-clause-done
returns-else-good-clause-done c =
    check_bad _ _ _ _ _ _ c.wanted_store-wanted.ensures c.node_routes-routes.ensures c.in_ok-text.ensures.checked c.if-good.false
