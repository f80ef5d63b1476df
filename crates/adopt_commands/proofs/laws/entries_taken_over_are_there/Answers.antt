use Rattle.adopt_commands.proofs.TakenOver.{all_reach}
use Rattle.adopt_commands.proofs.laws.entries_taken_over_are_there.Goals as goal

pub returns : goal.returns
returns c = all_reach
