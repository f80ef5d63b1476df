use Rattle.rathonsi_c.proofs.SyncLaws.{moved_by_key, reserved_by_key}
use Rattle.rathonsi_c.proofs.sync_laws.a_counter_is_moved_by_its_key_alone.Goals as goal

pub returns-clause-moved : goal.returns-clause-moved
returns-clause-moved c = λ r image answer q verdict answers is. moved_by_key r image answer q verdict answers is

pub returns-clause-reserved : goal.returns-clause-reserved
returns-clause-reserved c = λ r image answer q verdict answers is. reserved_by_key r image answer q verdict answers is
