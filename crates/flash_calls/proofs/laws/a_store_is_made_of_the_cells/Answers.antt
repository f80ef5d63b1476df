use Rattle.flash_calls.proofs.LifeLaws.{call_makes}
use Rattle.flash_calls.proofs.laws.a_store_is_made_of_the_cells.Goals as goal

pub returns : goal.returns
returns c = call_makes
