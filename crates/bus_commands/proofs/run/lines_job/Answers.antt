use Rattle.std.proofs.Common.{refl}
use Rattle.std.proofs.lemmas.Result.{err_from_is_err_and}
use Rattle.bus_commands.proofs.Preparing.{frames_err, judgements_err, check_no_bus, check_no_events, check_ok}
use Rattle.bus_commands.proofs.run.lines_job.Goals as goal

pub returns-in_err-frames-in-Frame : goal.returns-in_err-frames-in-Frame
returns-in_err-frames-in-Frame g c =
    let p = err_from_is_err_and c.from_residual.result c.from_residual.ensures.1 in
    rw (p.1, p.2) (frames_err c.args.command _ _ _ c.in-Frame.is refl c.in_err-frames-in-Frame.ensures)

pub returns-in_err-judgements-in-Judge : goal.returns-in_err-judgements-in-Judge
returns-in_err-judgements-in-Judge g c =
    let p = err_from_is_err_and c.from_residual-in_err-judgements-in-Judge.result c.from_residual-in_err-judgements-in-Judge.ensures.1 in
    rw (p.1, p.2) (judgements_err c.args.command _ _ _ c.in-Judge.is refl c.in_err-judgements-in-Judge.ensures)

pub returns-in_err-bus-in-Check : goal.returns-in_err-bus-in-Check
returns-in_err-bus-in-Check g c =
    let p = err_from_is_err_and c.from_residual-in_err-bus-in-Check.result c.from_residual-in_err-bus-in-Check.ensures.1 in
    rw (p.1, p.2) (check_no_bus c.args.command _ _ _ c.in-Check.is refl c.in_err-bus-in-Check.ensures)

pub returns-in_err-events-in-Check : goal.returns-in_err-events-in-Check
returns-in_err-events-in-Check g c =
    let p = err_from_is_err_and c.from_residual-in_err-events-in-Check.result c.from_residual-in_err-events-in-Check.ensures.1 in
    rw (p.1, p.2) (check_no_events c.args.command _ _ c.in_ok-bus-in-Check.bus _ c.in-Check.is c.in_ok-bus-in-Check.ensures c.in_err-events-in-Check.ensures)

pub returns-in_ok-events-in-Check : goal.returns-in_ok-events-in-Check
returns-in_ok-events-in-Check g c = check_ok c.args.command _ _ c.in_ok-bus-in-Check.bus c.in_ok-events-in-Check.events c.in-Check.is c.in_ok-bus-in-Check.ensures c.in_ok-events-in-Check.ensures
