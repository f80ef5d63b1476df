use Rattle.secoc_gateway.proofs.TurnLaws.{turns_are_of_the_node}
use Rattle.secoc_gateway.proofs.laws.gateway_turns_are_of_the_node.Goals as goal

pub returns : goal.returns
returns c = turns_are_of_the_node
