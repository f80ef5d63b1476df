use Rattle.cut_disk.proofs.CallerLemmas.{image_under_write}
use Rattle.cut_disk.proofs.UnderWrites.{image_of_under_write}
use Rattle.cut_disk.proofs.laws.a_write_loosens_its_range_alone.Goals as goal

pub returns : goal.returns
returns c = λ at bytes t left inside marked. (image_under_write at bytes t left inside marked, image_of_under_write at bytes t left inside marked)
