use Rattle.std.proofs.Common.{refl, subst}
use Rattle.bus_config.specs.Buses.{IsNamedBus}
use Rattle.std.proofs.lemmas.Result.{err_from_is_err_and}
use Rattle.gateway_commands.proofs.Preparing.{RowOf-config, RowOf-pairs, RowOf-script}
use Rattle.gateway_commands.proofs.run.read_job.Goals as goal

pub returns-in_err-bus : goal.returns-in_err-bus
returns-in_err-bus g c words asks =
    let p = err_from_is_err_and c.from_residual.result c.from_residual.ensures.1 in
    rw (p.1, p.2) (RowOf-config _ _ _ asks c.in_err-bus.ensures refl)

pub returns-in_err-check_pairs : goal.returns-in_err-check_pairs
returns-in_err-check_pairs g c words asks =
    let p = err_from_is_err_and c.from_residual-in_err-check_pairs.result c.from_residual-in_err-check_pairs.ensures.1 in
    rw (p.1, p.2) (RowOf-pairs _ _ _ _ asks c.in_ok-bus.ensures (rw c.as_slice.ensures.value at c.in_err-check_pairs.ensures) refl)

pub returns-in_err-events : goal.returns-in_err-events
returns-in_err-events g c words asks =
    let p = err_from_is_err_and c.from_residual-in_err-events.result c.from_residual-in_err-events.ensures.1 in
    rw (p.1, p.2)
    (RowOf-script _ c.in_ok-bus.bus c.args.pairs.items _
    (record {
      asks = asks;
      of_bus = c.in_ok-bus.ensures;
      is_bus = subst IsNamedBus c.bus.view_is c.bus.invariant;
      takes = rw c.as_slice.ensures.value at c.in_ok-check_pairs.ensures;
    })
    c.in_err-events.ensures)
