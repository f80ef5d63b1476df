use Rattle.unit_keys.proofs.Inputs.{of_one_unit}
use Rattle.unit_keys.proofs.laws.an_input_is_of_one_unit.Goals as goal

pub returns : goal.returns
returns c = of_one_unit
