use Rattle.secoc_words.proofs.WrittenKinds.{frames_of-written}
use Rattle.secoc_words.proofs.laws.written_frames_are_read.Goals as goal

pub returns : goal.returns
returns c = frames_of-written
