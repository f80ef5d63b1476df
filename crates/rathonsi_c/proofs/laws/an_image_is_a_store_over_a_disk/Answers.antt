use Rattle.rathonsi_c.proofs.DiskLaws.{image_stands}
use Rattle.rathonsi_c.proofs.laws.an_image_is_a_store_over_a_disk.Goals as goal

pub returns : goal.returns
returns c = λ image rest whole. image_stands image rest whole
