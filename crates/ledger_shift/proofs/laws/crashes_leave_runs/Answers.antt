use Rattle.ledger_shift.proofs.Crashed.{crash_runs}
use Rattle.ledger_shift.proofs.laws.crashes_leave_runs.Goals as goal

pub returns : goal.returns
returns g c = crash_runs g.S.Store
