use Rattle.std.proofs.lemmas.Result.{err_from_is_err_and}
use Rattle.bus_programs.specs.Scripts.{no_lines}
use Rattle.endpoint_commands.proofs.Preparing.{FindsRules-read}
use Rattle.endpoint_commands.proofs.inputs.rules_from.Goals as goal

pub returns-in_err-input : goal.returns-in_err-input
returns-in_err-input g c =
    let p = err_from_is_err_and c.from_residual.result c.from_residual.ensures.1 in
    rw (p.1, p.2) (no_lines c.in_err-input.field-0.0 c.in_err-input.ensures.refused)

pub returns : goal.returns
returns g c =
    FindsRules-read c.args.routes.now _ c.in_ok-input.input.items c.rules_in.result c.in_ok-input.ensures.ok
    (rw (← c.as_slice.ensures.value) c.rules_in.ensures)
