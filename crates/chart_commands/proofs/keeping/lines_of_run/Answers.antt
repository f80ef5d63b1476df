use Rattle.chart_commands.proofs.Drawing.{kept_whole, never_short}
use Rattle.chart_commands.proofs.keeping.lines_of_run.Goals as goal

pub returns-in-Ok : goal.returns-in-Ok
returns-in-Ok g c = kept_whole _ _ _ _ c.args.events.now c.in_ok-with_capacity.ensures.items c.in-Ok.ensures.driven

pub returns-in-Err : goal.returns-in-Err
returns-in-Err g c =
    absurd (never_short _ _ _ _ c.args.events.now _ c.in_ok-with_capacity.ensures.len c.in_ok-with_capacity.ensures.capacity c.in-Err.ensures.driven)
