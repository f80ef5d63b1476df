use Rattle.memory_update.proofs.Confirming.{same_confirmed}
use Rattle.memory_update.proofs.laws.a_reply_confirms_one_update.Goals as goal

pub returns : goal.returns
returns c = same_confirmed
