use Rattle.bus_lives.proofs.Chain.{refused_starts_leave_lives}
use Rattle.bus_lives.proofs.laws.refused_starts_leave_lives.Goals as goal

pub returns : goal.returns
returns c = refused_starts_leave_lives
