use Rattle.cut_disk.proofs.CallerLemmas.{later_join}
use Rattle.cut_disk.proofs.laws.later_states_compose.Goals as goal

pub returns : goal.returns
returns c = λ x y z. later_join
