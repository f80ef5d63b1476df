use Rattle.seal_parts.proofs.PartCuts.{loss_not_told}
use Rattle.seal_parts.proofs.laws.the_loss_of_a_put_of_one_program_is_not_told.Goals as goal

pub returns : goal.returns
returns c = loss_not_told
