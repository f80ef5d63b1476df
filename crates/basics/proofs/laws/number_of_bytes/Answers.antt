use Rattle.basics.proofs.CallerLemmas.{number_of-lt}
use Rattle.basics.proofs.laws.number_of_bytes.Goals as goal

pub returns : goal.returns
returns c = number_of-lt
