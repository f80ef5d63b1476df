use Rattle.rathonsi_c.proofs.RejoinSteps.{rejoined_in_steps}
use Rattle.rathonsi_c.proofs.rejoin_laws.a_rejoin_is_two_steps.Goals as goal

pub returns : goal.returns
returns c = λ r image key answer q bound input one two ready its first second. rejoined_in_steps r image key answer q bound input one two ready its first second
