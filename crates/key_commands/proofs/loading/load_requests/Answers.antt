use Rattle.std.proofs.Common.{◌∙◌, ap, Err}
use Rattle.std.specs.Prelude.{Ok}
use Rattle.run_driver.specs.declared.last_line.Stop.TheVariants as stop
use Rattle.run_driver.specs.declared.printing.Unwritten.TheVariants as unwritten
use Rattle.key_commands.proofs.EndingLaws.{ends_loading}
use Rattle.key_commands.proofs.loading.load_requests.Goals as goal

pub returns-in-Ok : goal.returns-in-Ok
returns-in-Ok g c =
    ends_loading _ _ _ _ _ c.requires.up c.requires.held (Ok c.in-Ok.field-0) (rw c.in-Ok.is at c.print_run_until_last.ensures.printed)

pub returns-in-Err-Last : goal.returns-in-Err-Last
returns-in-Err-Last g c =
    ends_loading _ _ _ _ _ c.requires.up c.requires.held (Err stop.Last)
    (rw (c.in-Err-Last.is ∙ ap Err c.in-Err-Last.field-0-is) at c.print_run_until_last.ensures.printed)

pub returns-in-Err-Unprinted-SinkFailed : goal.returns-in-Err-Unprinted-SinkFailed
returns-in-Err-Unprinted-SinkFailed g c =
    let h = c.in-Err-Unprinted-SinkFailed in
    ends_loading _ _ _ _ _ c.requires.up c.requires.held (Err (stop.Unprinted unwritten.SinkFailed))
    (rw (h.is ∙ ap Err (h.field-0-is ∙ ap stop.Unprinted h.field-0-0-is)) at c.print_run_until_last.ensures.printed)

pub returns-in-Err-Unprinted-Memory : goal.returns-in-Err-Unprinted-Memory
returns-in-Err-Unprinted-Memory g c =
    let h = c.in-Err-Unprinted-Memory in
    ends_loading _ _ _ _ _ c.requires.up c.requires.held (Err (stop.Unprinted unwritten.Memory))
    (rw (h.is ∙ ap Err (h.field-0-is ∙ ap stop.Unprinted h.field-0-0-is)) at c.print_run_until_last.ensures.printed)
