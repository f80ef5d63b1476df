use Rattle.store_plan.proofs.GrowingLaws.{says-once}
use Rattle.store_plan.proofs.laws.cells_say_one_number.Goals as goal

pub returns : goal.returns
returns c = says-once
