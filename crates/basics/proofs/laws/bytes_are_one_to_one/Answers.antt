use Rattle.basics.proofs.CallerLemmas.{same_number}
use Rattle.basics.proofs.laws.bytes_are_one_to_one.Goals as goal

pub returns : goal.returns
returns c = same_number
