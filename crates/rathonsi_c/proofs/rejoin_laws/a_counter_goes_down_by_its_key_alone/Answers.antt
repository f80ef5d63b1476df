use Rattle.rathonsi_c.proofs.RejoinSteps.{rejoined_by_key, retold_by_key}
use Rattle.rathonsi_c.proofs.rejoin_laws.a_counter_goes_down_by_its_key_alone.Goals as goal

pub returns-clause-moved : goal.returns-clause-moved
returns-clause-moved c = λ r image answer q verdict answers is. rejoined_by_key r image answer q verdict answers is

pub returns-clause-reserved : goal.returns-clause-reserved
returns-clause-reserved c = λ r image answer q verdict answers is. retold_by_key r image answer q verdict answers is
