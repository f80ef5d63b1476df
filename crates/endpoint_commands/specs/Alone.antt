-- What a node does for a line of a log, alone on its bus
use Rattle.bus_machine.specs.declared.events.Event.{Event}
use Rattle.bus_machine.specs.declared.lines.Line.{Line}
use Rattle.bus_machine.specs.Bus.{silent_world}
use Rattle.secoc_node.specs.State.{NodeState}
use Rattle.bus_world.specs.Turns.{NodeTurn, HearsBrought, duty_of}

-- its turn for an event, as one on a bus on which nothing was sent; and a PDU that comes in time is accepted as it was
-- sent, or the disk failed
pub record TurnsAlone (before : NodeState) (event : Event) (told : Line) (after : NodeState) : Type 0 where
  pub turn : NodeTurn before (duty_of silent_world event) told after
  pub honest : HearsBrought silent_world event before.node told
