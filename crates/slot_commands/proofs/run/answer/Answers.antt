use Rattle.std.proofs.Common.{refl}
use Rattle.std.proofs.lemmas.Result.{err_from_is_err_and}
use Rattle.slot_commands.proofs.Phases.{words_refused, file_lacking, task_done}
use Rattle.slot_commands.proofs.run.answer.Goals as goal

pub returns-in_err-task : goal.returns-in_err-task
returns-in_err-task g c =
    let p = err_from_is_err_and c.from_residual.result c.from_residual.ensures.1 in
    rw (p.1, p.2) (words_refused _ _ c.in_err-task.ensures refl)

pub returns-in_err-bytes : goal.returns-in_err-bytes
returns-in_err-bytes g c =
    let p = err_from_is_err_and c.from_residual-in_err-bytes.result c.from_residual-in_err-bytes.ensures.1 in
    rw (p.1, p.2) (file_lacking _ _ _ _ c.in_ok-task.ensures c.in_err-bytes.ensures.refused refl)

pub returns : goal.returns
returns g c = task_done _ _ _ _ c.do_task.result c.in_ok-task.ensures c.in_ok-bytes.ensures.ok c.as_slice.ensures.value c.do_task.ensures.done c.do_task.ensures.refused
