use Rattle.any_cells.proofs.LookingLaws.{found-once}
use Rattle.any_cells.proofs.laws.bytes_are_found_to_be_one_thing.Goals as goal

pub returns : goal.returns
returns c = λ kind version n x. found-once kind version n x
