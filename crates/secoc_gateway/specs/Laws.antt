-- What holds of the turns of gateways, as statements
use Rattle.std.specs.Prelude.{◌≡◌, List}
use Rattle.machine_runs.specs.Run.{Moment, Run, seen_as}
use Rattle.store_keeping.specs.DiskTurns.{DiskTurn}
use Rattle.bus_machine.specs.declared.events.Event.{Event}
use Rattle.bus_machine.specs.declared.lines.Line.{Line}
use Rattle.bus_machine.specs.Past.{mark_of}
use Rattle.bus_machine.specs.Sound.{Sound}
use Rattle.bus_world.specs.Turns.{IsCertain, LeavesAlone, LeavesCut, StaysBehind}
use Rattle.secoc_node.specs.State.{NodeState, FitsNow, TellsFitting}
use Rattle.secoc_gateway.specs.declared.gateway_lines.GatewayLine.{GatewayLine}
use Rattle.secoc_gateway.specs.declared.gateway_lines.GatewayLine.TheVariants.{OfNode}
use Rattle.secoc_gateway.specs.Gateway.{EventStep, GatewayStep}
use Rattle.secoc_gateway.specs.Parts.{AreAllParts}
use Rattle.secoc_gateway.specs.State.{GatewayState, over}
use Rattle.secoc_gateway.specs.Turns.{EventTurn, GatewayTurn, most_gateway_calls, tells_gateway_failure}

-- among what each turn of a gateway keeps, put together from the turns of its node
pub record TurnKeeps (before : GatewayState) (event : Event) (line : GatewayLine) (after : GatewayState) : Type 0 where
  -- it is a step of the machine: always if the event is no cut, and if it is one, over a disk that tells its bytes and
  -- fits the node
  pub step : IsCertain (mark_of event) (over before)
      → GatewayStep EventStep before.pairs before.node event line after.node
  pub pairs : after.pairs ≡ before.pairs
  pub config : after.node.config ≡ before.node.config
  pub layout : after.store.layout ≡ before.store.layout
  -- how many calls of the disk there are, and which line tells that one failed
  pub disk : DiskTurn (mark_of event) (most_gateway_calls before.pairs before.node event) (tells_gateway_failure line)
      before.store.disk after.store.disk
  pub fits : FitsNow (over before) → FitsNow (over after)
  pub fitting : TellsFitting (over before) → TellsFitting (over after)
  pub sound : Sound before.node → Sound after.node
  -- if a line of the node tells that nothing was done, the disk didn't fail and no power was cut, the node, its store
  -- and its disk are as they were
  pub untouched : (told : Line) → line ≡ OfNode told → LeavesAlone (mark_of event) told (over before) (over after)
  -- what a cut leaves of told bytes
  pub image : LeavesCut (mark_of event) before.store.disk after.store.disk
  pub stays : StaysBehind (mark_of event) before.store.disk after.store.disk

abbrev pub GatewayTurnsKeep : Type 0
GatewayTurnsKeep = (before : GatewayState) (event : Event) (line : GatewayLine) (after : GatewayState)
    → GatewayTurn before event line after → TurnKeeps before event line after

-- turns of a gateway, one after the other, are turns of its node, part by part
abbrev pub GatewayTurnsAreOfTheNode : Type 0
GatewayTurnsAreOfTheNode =
    (start : GatewayState) (moments : List (Moment Event GatewayLine GatewayState)) (now : GatewayState)
    → Run GatewayTurn start moments now
    → (parts : List (Moment Event Line NodeState)) × Run EventTurn (over start) parts (over now)
    × AreAllParts start.pairs (seen_as (λ (e : Event). e) over moments) parts
