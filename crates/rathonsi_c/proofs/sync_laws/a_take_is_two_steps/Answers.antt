use Rattle.rathonsi_c.proofs.SyncSteps.{taken_in_steps}
use Rattle.rathonsi_c.proofs.sync_laws.a_take_is_two_steps.Goals as goal

pub returns : goal.returns
returns c = λ r image key answer q bound input one two ready its first second. taken_in_steps r image key answer q bound input one two ready its first second
