-- What a gateway does in one event (own): one or two steps of its node, whatever a step of the node is
use Rattle.std.specs.Prelude.{◌≡◌, ℕ, ◌==◌, Option, None, Some, List, find, option_map}
use Rattle.machine_runs.specs.Run.{Moment, Run}
use Rattle.bus_machine.specs.declared.events.Event.{Event}
use Rattle.bus_machine.specs.declared.events.Event.TheVariants.{Send, Inject}
use Rattle.bus_machine.specs.declared.lines.Line.{Line}
use Rattle.bus_machine.specs.declared.lines.Line.TheVariants.{Sent, Accepted, Refused}
use Rattle.bus_machine.specs.Node.{Node}
use Rattle.bus_machine.specs.Steps.{NodeStep}
use Rattle.bus_machine.specs.Bus.{node_of, act_of, silent_world}
use Rattle.secoc_gateway.specs.declared.gateway_lines.GatewayLine.{GatewayLine}
use Rattle.secoc_gateway.specs.declared.gateway_lines.GatewayLine.TheVariants.{Forwarded, Dropped, OfNode}

-- ---- pairs of Data IDs: what arrives under the first departs under the second

-- the second of the pair with this first
abbrev pub second_of : List (ℕ × ℕ) → ℕ → Option ℕ
second_of pairs id = option_map (λ (p : ℕ × ℕ). p.1) (find (λ (p : ℕ × ℕ). p.0 == id) pairs)

-- the Data ID under which an event's payload is to depart: that of an injected PDU under the first of a pair
abbrev pub departs_under : List (ℕ × ℕ) → Event → Option ℕ
departs_under pairs (Inject place id pdu) = second_of pairs id
departs_under pairs _ = None

-- ---- one event

-- what a node may do: from this state the event may tell this line and lead to that state
abbrev pub NodeSteps : Type 0 → Type 1
NodeSteps S = S → Event → Line → S → Type 0

-- the line of an arrival that was accepted with this freshness, by the node's line of its departure
abbrev pub TellsDeparture : ℕ → ℕ → Line → GatewayLine → Type 0
TellsDeparture id v (Sent out w pdu) line = line ≡ Forwarded id v out w pdu
TellsDeparture id v (Refused refusal) line = line ≡ Dropped id v refusal
TellsDeparture id v _ line = ⊥

-- what follows an arrival, by the node's line of it: an accepted payload is sent, any other line stays as it is
abbrev pub Departs : {S : Type 0} → NodeSteps S → (place out : ℕ) → Line → S → GatewayLine → S → Type 0
Departs steps place out (Accepted id v payload source) between line after =
    (second : Line) × steps between (Send place out payload) second after × TellsDeparture id v second line
Departs steps place out first between line after = (line ≡ OfNode first) × (after ≡ between)

-- the node receives what arrives, and from the node that it then is, what it accepted departs
pub record PassesOn {S : Type 0} (steps : NodeSteps S) (out : ℕ)
    (before : S) (event : Event) (line : GatewayLine) (after : S) : Type 0 where
  pub first : Line
  pub between : S
  pub arrives : steps before event first between
  pub departs : Departs steps (node_of event) out first between line after

-- an accepted line names no event that sent
abbrev pub FromNone : Line → Type 0
FromNone (Accepted id v payload source) = source ≡ None
FromNone _ = Unit {0}

-- the node's one step
pub record OneStep {S : Type 0} (steps : NodeSteps S)
    (before : S) (event : Event) (line : GatewayLine) (after : S) : Type 0 where
  pub told : Line
  pub step : steps before event told after
  pub line_is : line ≡ OfNode told
  pub from : FromNone told

abbrev pub StepUnder : {S : Type 0} → NodeSteps S → Option ℕ → S → Event → GatewayLine → S → Type 0
StepUnder steps (Some out) = PassesOn steps out
StepUnder steps None = OneStep steps

abbrev pub GatewayStep : {S : Type 0} → NodeSteps S → List (ℕ × ℕ) → S → Event → GatewayLine → S → Type 0
GatewayStep steps pairs before event line after = StepUnder steps (departs_under pairs event) before event line after

-- ---- runs, of the machine of a node

-- the machine's step of the one node
abbrev pub EventStep : Node → Event → Line → Node → Type 0
EventStep node event line after = NodeStep node (act_of silent_world event) line after

abbrev pub GatewayMoments : Type 0
GatewayMoments = List (Moment Event GatewayLine Node)

abbrev pub GatewayRun : List (ℕ × ℕ) → Node → GatewayMoments → Node → Type 0
GatewayRun pairs = Run (GatewayStep EventStep pairs)
