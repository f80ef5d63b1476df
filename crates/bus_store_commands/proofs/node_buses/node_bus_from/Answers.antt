use Rattle.std.proofs.lemmas.Result.{err_from_is_err_and}
use Rattle.bus_store_commands.specs.NodeBuses.{no_bus}
use Rattle.bus_store_commands.proofs.CheckPhases.{others_lack}
use Rattle.bus_store_commands.proofs.node_buses.node_bus_from.Goals as goal

pub returns-in_err-bus : goal.returns-in_err-bus
returns-in_err-bus g c =
    let p = err_from_is_err_and c.from_residual.result c.from_residual.ensures.1 in
    rw (p.1, p.2) (no_bus _ c.in_err-bus.ensures)

pub returns-in_err-check_bus : goal.returns-in_err-check_bus
returns-in_err-check_bus g c =
    let p = err_from_is_err_and c.from_residual-in_err-check_bus.result c.from_residual-in_err-check_bus.ensures.1 in
    rw (p.1, p.2) (others_lack _ _ _ c.in_ok-bus.ensures c.in_err-check_bus.ensures)
