use Rattle.basics.proofs.CallerLemmas.{same_bytes}
use Rattle.basics.proofs.laws.number_is_one_to_one.Goals as goal

pub returns : goal.returns
returns c = same_bytes
