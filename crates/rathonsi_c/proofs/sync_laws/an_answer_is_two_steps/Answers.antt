use Rattle.rathonsi_c.proofs.SyncSteps.{answered_in_steps}
use Rattle.rathonsi_c.proofs.sync_laws.an_answer_is_two_steps.Goals as goal

pub returns : goal.returns
returns c = λ r image key answer q input fits keyed is made. answered_in_steps r image key answer q input fits keyed is made
