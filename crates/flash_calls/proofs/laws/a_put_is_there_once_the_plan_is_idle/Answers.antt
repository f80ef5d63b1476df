use Rattle.flash_calls.proofs.PutLives.{put_done, put_there, none_there}
use Rattle.flash_calls.proofs.laws.a_put_is_there_once_the_plan_is_idle.Goals as goal

pub returns-clause-done : goal.returns-clause-done
returns-clause-done c = put_done

pub returns-clause-cut : goal.returns-clause-cut
returns-clause-cut c = put_there

pub returns-clause-none : goal.returns-clause-none
returns-clause-none c = none_there
