use Rattle.std.proofs.lemmas.Result.{err_from_is_err_and}
use Rattle.slot_commands.proofs.ReadingLaws.{none_read, store_held, unreadable}
use Rattle.slot_commands.proofs.reading.read_store.Goals as goal

pub returns-in_err-found-clause-refused : goal.returns-in_err-found-clause-refused
returns-in_err-found-clause-refused c =
    let p = err_from_is_err_and c.from_residual.result c.from_residual.ensures.1 in
    rw (p.1, p.2) (none_read _ _ c.in_err-found.ensures.refused)

pub returns-in-Ok-clause-read : goal.returns-in-Ok-clause-read
returns-in-Ok-clause-read c = store_held _ _ _ _ c.in_ok-found.ensures.found c.in-Ok.ensures.attached

pub returns-in-Err-clause-refused : goal.returns-in-Err-clause-refused
returns-in-Err-clause-refused c =
    unreadable _ _ _ _ c.in_ok-found.ensures.found _ _ c.in-Err.refused.fault _ c.in-Err.ensures.refused c.store_refusal.ensures
