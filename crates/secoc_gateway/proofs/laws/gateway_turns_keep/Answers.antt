use Rattle.secoc_gateway.proofs.TurnLaws.{turn_keeps}
use Rattle.secoc_gateway.proofs.laws.gateway_turns_keep.Goals as goal

pub returns : goal.returns
returns c = turn_keeps
