use Rattle.std.proofs.Common.{refl, rules}
use Rattle.std.proofs.lemmas.Result.{err_from_is_err_and}
use Rattle.bus_commands.proofs.Preparing.{world_no_bus, world_no_events, world_ok}
use Rattle.bus_commands.proofs.run.world_job.Goals as goal

pub returns-in_err-bus : goal.returns-in_err-bus
returns-in_err-bus g c =
    let p = err_from_is_err_and c.from_residual.result c.from_residual.ensures.1 in
    rw (p.1, p.2) (world_no_bus c.args.command _ _ _ refl c.in_err-bus.ensures)

pub returns-in_err-events : goal.returns-in_err-events
returns-in_err-events g c =
    let p = err_from_is_err_and c.from_residual-in_err-events.result c.from_residual-in_err-events.ensures.1 in
    rw (p.1, p.2) (world_no_events c.args.command _ _ c.in_ok-bus.bus _ c.in_ok-bus.ensures c.in_err-events.ensures)

pub returns : goal.returns
returns g c = world_ok c.args.command _ _ c.in_ok-bus.bus c.in_ok-events.events (search rules) c.in_ok-bus.ensures c.in_ok-events.ensures
