use Rattle.cut_disk.proofs.CallerLemmas.{later_of_runs}
use Rattle.cut_disk.proofs.laws.runs_only_add.Goals as goal

pub returns : goal.returns
returns c = λ marks most old new. later_of_runs
