use Rattle.rathonsi_c.proofs.DiskLaws.{front_whole, front_cells}
use Rattle.rathonsi_c.proofs.laws.a_store_over_a_disk_is_an_image.Goals as goal

pub returns : goal.returns
returns c = λ x cells stands least most. (front_whole x cells stands least most, λ i below. front_cells x cells stands i below)
