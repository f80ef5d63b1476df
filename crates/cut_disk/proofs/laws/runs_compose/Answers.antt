use Rattle.cut_disk.proofs.CallerLemmas.{runs_join}
use Rattle.cut_disk.proofs.laws.runs_compose.Goals as goal

pub returns : goal.returns
returns c = λ first second m n a b c. runs_join
