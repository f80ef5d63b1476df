-- The laws of all runs of a gateway's machine, as statements
use Rattle.std.specs.Prelude.{ℕ, List}
use Rattle.machine_runs.specs.Run.{Moment, Run}
use Rattle.bus_machine.specs.declared.events.Event.{Event}
use Rattle.bus_machine.specs.declared.lines.Line.{Line}
use Rattle.freshness_routes.specs.declared.routes.Direction.TheVariants.{Sends, Receives}
use Rattle.bus_machine.specs.Node.{Node}
use Rattle.bus_machine.specs.Sound.{Sound}
use Rattle.secoc_gateway.specs.Gateway.{EventStep, GatewayMoments, GatewayRun}
use Rattle.secoc_gateway.specs.Claims.{AllForwardRight, FreshnessRises}
use Rattle.secoc_gateway.specs.Parts.{AreAllParts}

-- each run from a sound node has this, whatever its pairs
abbrev pub EachGatewayRun : (List (ℕ × ℕ) → Node → GatewayMoments → Node → Type 0) → Type 0
EachGatewayRun Claim =
    (pairs : List (ℕ × ℕ)) (start : Node) (ms : GatewayMoments) (last : Node)
    → Sound start → GatewayRun pairs start ms last → Claim pairs start ms last

abbrev pub RunsForwardWhatArrived : Type 0
RunsForwardWhatArrived = EachGatewayRun (λ pairs start ms last. AllForwardRight pairs start ms)

abbrev pub ArrivalsRise : Type 0
ArrivalsRise = EachGatewayRun (λ pairs start ms last. FreshnessRises Receives ms)

abbrev pub DeparturesRise : Type 0
DeparturesRise = EachGatewayRun (λ pairs start ms last. FreshnessRises Sends ms)

abbrev pub RunsStaySound : Type 0
RunsStaySound = EachGatewayRun (λ pairs start ms last. Sound last)

-- each run is a run of the node, part by part. An event is one step of it. It is two exactly if a PDU that arrived
-- under a pair's first Data ID was accepted: the second sends its payload under the pair's second
abbrev pub RunsAreOfTheNode : Type 0
RunsAreOfTheNode = EachGatewayRun (λ pairs start ms last.
    (parts : List (Moment Event Line Node)) × Run EventStep start parts last × AreAllParts pairs ms parts)
