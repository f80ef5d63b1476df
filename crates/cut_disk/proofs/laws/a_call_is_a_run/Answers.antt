use Rattle.cut_disk.proofs.CallerLemmas.{runs_of_call}
use Rattle.cut_disk.proofs.laws.a_call_is_a_run.Goals as goal

pub returns : goal.returns
returns c = λ mark old new. runs_of_call
