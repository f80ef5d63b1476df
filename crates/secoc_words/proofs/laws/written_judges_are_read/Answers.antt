use Rattle.secoc_words.proofs.WrittenKinds.{judges_of-written}
use Rattle.secoc_words.proofs.laws.written_judges_are_read.Goals as goal

pub returns : goal.returns
returns c = judges_of-written
