use Rattle.cut_disk.proofs.CallerLemmas.{grows_of_call}
use Rattle.cut_disk.proofs.laws.a_call_grows_the_past.Goals as goal

pub returns : goal.returns
returns c = λ mark old new. grows_of_call
