use Rattle.secoc_words.proofs.WrittenKinds.{loads_of-written}
use Rattle.secoc_words.proofs.laws.written_loads_are_read.Goals as goal

pub returns : goal.returns
returns c = loads_of-written
