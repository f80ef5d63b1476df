use Rattle.secoc_node.proofs.KeptLaws.{kept_once}
use Rattle.secoc_node.proofs.laws.cells_tell_what_is_kept.Goals as goal

pub returns : goal.returns
returns c = λ config kept other. kept_once config kept other
