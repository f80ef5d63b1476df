-- A gateway's run is a run of its node, part by part
use Rattle.std.specs.Prelude.{◌≡◌, ℕ, Option, None, Some, List, [], ◌∷◌, ◌++◌}
use Rattle.machine_runs.specs.Run.{Moment}
use Rattle.bus_machine.specs.declared.events.Event.{Event}
use Rattle.bus_machine.specs.declared.events.Event.TheVariants.{Send}
use Rattle.bus_machine.specs.declared.lines.Line.{Line}
use Rattle.bus_machine.specs.declared.lines.Line.TheVariants.{Accepted}
use Rattle.bus_machine.specs.Bus.{node_of}
use Rattle.secoc_gateway.specs.declared.gateway_lines.GatewayLine.{GatewayLine}
use Rattle.secoc_gateway.specs.declared.gateway_lines.GatewayLine.TheVariants.{OfNode}
use Rattle.secoc_gateway.specs.Gateway.{departs_under, TellsDeparture, FromNone}

-- the event sends what the line accepted, under this Data ID, and the gateway tells of both lines this one
abbrev pub FollowsArrival : (place out : ℕ) → Line → Event → Line → GatewayLine → Type 0
FollowsArrival place out (Accepted id v payload source) event second line =
    (event ≡ Send place out payload) × TellsDeparture id v second line
FollowsArrival place out _ event second line = ⊥

-- nothing follows a line of the node: what arrived under a pair's first Data ID wasn't accepted; or it is of another
-- event, and if it is accepted it names no event that sent
abbrev pub StandsAlone : Option ℕ → Line → Type 0
StandsAlone (Some out) (Accepted id v payload source) = ⊥
StandsAlone (Some out) line = Unit {0}
StandsAlone None line = FromNone line

-- the node's moments that one of the gateway's is made of: its one step, after which nothing follows; or, exactly if a
-- PDU that arrived under a pair's first Data ID was accepted, this arrival, and the departure under the second
abbrev pub AreParts : {S : Type 0} → List (ℕ × ℕ) → Moment Event GatewayLine S → List (Moment Event Line S) → Type 0
AreParts pairs m (one ∷ []) =
    (one.command ≡ m.command) × (m.line ≡ OfNode one.line) × (m.after ≡ one.after)
    × StandsAlone (departs_under pairs m.command) one.line
AreParts pairs m (one ∷ two ∷ []) =
    (one.command ≡ m.command)
    × ((out : ℕ) × (departs_under pairs m.command ≡ Some out)
    × FollowsArrival (node_of m.command) out one.line two.command two.line m.line)
    × (m.after ≡ two.after)
AreParts pairs m _ = ⊥

abbrev pub AreAllParts : {S : Type 0} → List (ℕ × ℕ) → List (Moment Event GatewayLine S) → List (Moment Event Line S)
    → Type 0
AreAllParts pairs [] parts = parts ≡ []
AreAllParts {S} pairs (m ∷ ms) parts =
    (own : List (Moment Event Line S)) × (rest : List (Moment Event Line S)) × (parts ≡ own ++ rest)
    × AreParts pairs m own × AreAllParts pairs ms rest
