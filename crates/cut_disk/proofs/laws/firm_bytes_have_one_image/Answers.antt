use Rattle.cut_disk.proofs.CallerLemmas.{image_of_firm}
use Rattle.cut_disk.proofs.UnderWrites.{firm_is_an_image}
use Rattle.cut_disk.proofs.laws.firm_bytes_have_one_image.Goals as goal

pub returns : goal.returns
returns c = λ bytes left. (image_of_firm, firm_is_an_image)
