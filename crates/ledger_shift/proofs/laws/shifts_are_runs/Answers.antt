use Rattle.ledger_shift.proofs.Calls.{shift_runs}
use Rattle.ledger_shift.proofs.laws.shifts_are_runs.Goals as goal

pub returns : goal.returns
returns g c = shift_runs g.S.Store c.answered_counters_rise.ensures
