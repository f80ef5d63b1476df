-- What one event does to a gateway and to the disk of its node: the machine of a gateway, over the turns of its node
use Rattle.std.specs.Prelude.{◌≡◌, ℕ, Bool, true, false, Option, None, Some, List, All}
use Rattle.bus_machine.specs.declared.events.Event.{Event}
use Rattle.bus_machine.specs.declared.lines.Line.{Line}
use Rattle.bus_machine.specs.declared.lines.Line.TheVariants.{Refused}
use Rattle.bus_machine.specs.declared.lines.Refusal.TheVariants.{MemoryFailure}
use Rattle.bus_machine.specs.Node.{Node}
use Rattle.bus_machine.specs.Past.{mark_of, cell_count}
use Rattle.bus_machine.specs.Bus.{silent_world}
use Rattle.bus_world.specs.Turns.{CanBeDone, NodeTurn, duty_of, most_calls}
use Rattle.secoc_node.specs.State.{NodeState}
use Rattle.secoc_gateway.specs.declared.gateway_lines.GatewayLine.{GatewayLine}
use Rattle.secoc_gateway.specs.declared.gateway_lines.GatewayLine.TheVariants.{Dropped, OfNode}
use Rattle.secoc_gateway.specs.Gateway.{departs_under, GatewayStep}
use Rattle.secoc_gateway.specs.State.{GatewayState, over}

-- ---- the turn

-- the turn of the one node, as one on a bus on which nothing was sent
abbrev pub EventTurn : NodeState → Event → Line → NodeState → Type 0
EventTurn before event line after = NodeTurn before (duty_of silent_world event) line after

-- a gateway's turn is a step of its machine over the turns of its node. An arrival under the first Data ID of a pair is
-- the node's turn that receives and, if this is accepted, the node's turn that sends. Any other event is the node's one
-- turn. So all that a turn of the node keeps holds of each part
pub record GatewayTurn (before : GatewayState) (event : Event) (line : GatewayLine)
    (after : GatewayState) : Type 0 where
  pub step : GatewayStep EventTurn before.pairs (over before) event line (over after)
  pub pairs : after.pairs ≡ before.pairs

-- a gateway may be given these events, in this order
abbrev pub AreReady : GatewayState → List Event → Type 0
AreReady gateway events = All CanBeDone events

-- ---- what is counted of it

-- the line tells that the disk failed, as the PDU arrived, or as its payload departed, or in the node's own event
abbrev pub tells_gateway_failure : GatewayLine → Bool
tells_gateway_failure (Dropped id v MemoryFailure) = true
tells_gateway_failure (OfNode (Refused MemoryFailure)) = true
tells_gateway_failure _ = false

-- the most calls of the disk: two puts of one cell if what arrives is to depart, else what the node's own event makes
abbrev pub calls_under : Option ℕ → ℕ → ℕ
calls_under (Some out) own = 12
calls_under None own = own

abbrev pub most_gateway_calls : List (ℕ × ℕ) → Node → Event → ℕ
most_gateway_calls pairs node event =
    calls_under (departs_under pairs event) (most_calls (cell_count node) (mark_of event))
