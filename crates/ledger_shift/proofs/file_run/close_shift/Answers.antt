use Rattle.std.proofs.Common.{inl, inr, refl}
use Rattle.ledger_shift.proofs.file_run.close_shift.Goals as goal

pub returns-in-Ok : goal.returns-in-Ok
returns-in-Ok g c = inl (c.in-Ok._files, c.in-Ok.ensures.copied, refl, refl)

pub returns-in-Err : goal.returns-in-Err
returns-in-Err g c = inr (c.in-Err.error, c.in-Err.store, c.in-Err.ensures.err.1, c.tell_closing.ensures)
