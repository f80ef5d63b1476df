use Rattle.program_lives.proofs.RefusedRuns.{refused_loads_leave_all}
use Rattle.program_lives.proofs.laws.refused_loads_leave_all.Goals as goal

pub returns : goal.returns
returns c = refused_loads_leave_all
