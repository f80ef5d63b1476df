use Rattle.basics.proofs.CallerLemmas.{number_of-append, bytes_of-append}
use Rattle.basics.proofs.laws.joined.Goals as goal

pub returns-clause-number : goal.returns-clause-number
returns-clause-number c = number_of-append

pub returns-clause-bytes : goal.returns-clause-bytes
returns-clause-bytes c = bytes_of-append
