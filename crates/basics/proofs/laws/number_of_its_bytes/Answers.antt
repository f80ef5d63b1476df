use Rattle.basics.proofs.CallerLemmas.{number_of-bytes_of, number_of-bytes_of-lt}
use Rattle.basics.proofs.laws.number_of_its_bytes.Goals as goal

pub returns-clause-lowest : goal.returns-clause-lowest
returns-clause-lowest c = number_of-bytes_of

pub returns-clause-whole : goal.returns-clause-whole
returns-clause-whole c = number_of-bytes_of-lt
