use Rattle.cut_disk.proofs.CallerLemmas.{image_is_read}
use Rattle.cut_disk.proofs.laws.the_bytes_are_an_image.Goals as goal

pub returns : goal.returns
returns c = image_is_read
