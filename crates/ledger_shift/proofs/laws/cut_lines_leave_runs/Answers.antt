use Rattle.ledger_shift.proofs.Crashed.{cut_runs}
use Rattle.ledger_shift.proofs.laws.cut_lines_leave_runs.Goals as goal

pub returns : goal.returns
returns g c = cut_runs g.S.Store
