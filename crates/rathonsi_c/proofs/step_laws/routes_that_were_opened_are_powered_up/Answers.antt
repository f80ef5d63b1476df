use Rattle.rathonsi_c.proofs.StepLaws.{powered}
use Rattle.rathonsi_c.proofs.step_laws.routes_that_were_opened_are_powered_up.Goals as goal

pub returns : goal.returns
returns c = λ routes opened a o empty same. powered routes opened a o empty same
