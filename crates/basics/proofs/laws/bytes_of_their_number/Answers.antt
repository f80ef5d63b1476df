use Rattle.basics.proofs.CallerLemmas.{bytes_of-number_of}
use Rattle.basics.proofs.laws.bytes_of_their_number.Goals as goal

pub returns : goal.returns
returns c = bytes_of-number_of
