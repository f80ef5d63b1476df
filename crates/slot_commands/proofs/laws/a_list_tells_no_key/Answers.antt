use Rattle.slot_commands.proofs.KeyFree.{one_text}
use Rattle.slot_commands.proofs.laws.a_list_tells_no_key.Goals as goal

pub returns : goal.returns
returns c = one_text
