use Rattle.basics.proofs.CallerLemmas.{IsBytes-bytes_of}
use Rattle.basics.proofs.laws.bytes_of_a_number.Goals as goal

pub returns : goal.returns
returns c = IsBytes-bytes_of
