-- What goes into a gateway, and what of it is read
use Rattle.std.specs.Prelude.{◌≡◌, ◌≢◌, ℕ, ◌+◌, List, length, Some, Ok}
use Rattle.program_edge.specs.declared.input.InputFault.{InputFault}
use Rattle.program_edge.specs.Inputs.{Reading, IsUnread, ReadsWhole, Lacks}
use Rattle.bus_config.specs.declared.fault.ConfigFault.{ConfigFault}
use Rattle.bus_config.specs.FaultTexts.{config_fault_text}
use Rattle.freshness_routes.specs.Config.{Config}
use Rattle.bus_machine.specs.declared.events.Event.{Event}
use Rattle.bus_machine.specs.Node.{Node, first_node}
use Rattle.bus_config.specs.Buses.{NamedBus, IsNamedBus}
use Rattle.bus_script.specs.EventForms.{node_line_at, own_events_of}
use Rattle.bus_programs.specs.BusFiles.{ReadsBus, IsConfigFault, OffersBus}
use Rattle.bus_programs.specs.Inputs.{BusInputs}
use Rattle.secoc_gateway.specs.Pairs.{AreGood, IsLowestBad}
use Rattle.gateway_commands.specs.Words.{AsksGateway}
use Rattle.gateway_commands.specs.Texts.{nodes_text, pair_text}

-- ---- the bus

-- the configuration of the one node, and the node as it begins
abbrev pub gate_config : NamedBus → Config
gate_config bus = (node_line_at bus.nodes 0).config

abbrev pub gate_node : NamedBus → Node
gate_node bus = first_node (gate_config bus)

-- the bus has one node, and a gateway over it takes these pairs
pub record TakesPairs (bus : NamedBus) (pairs : List (ℕ × ℕ)) : Type 0 where
  pub one : length bus.nodes ≡ 1
  pub good : AreGood (gate_config bus).routes pairs

-- why it doesn't, and the text that says so: another number of nodes, or the lowest pair that isn't taken
pub data RefusesPairs (bus : NamedBus) (pairs : List (ℕ × ℕ)) : List ℕ → Type 0 where
  other_number : length bus.nodes ≢ 1 → RefusesPairs bus pairs nodes_text
  bad_pair : (place : ℕ) → length bus.nodes ≡ 1 → IsLowestBad (gate_config bus).routes pairs place
      → RefusesPairs bus pairs (pair_text (place + 1))

-- why a bus file that was read whole is refused, and the text that says so
pub data RefusesConfig (config : Reading) (pairs : List (ℕ × ℕ)) : List ℕ → Type 0 where
  of_file : (fault : ConfigFault) (text : List ℕ) → IsConfigFault config fault → config_fault_text fault ≡ Some text
      → RefusesConfig config pairs text
  of_bus : (bus : NamedBus) (text : List ℕ) → ReadsBus config bus → RefusesPairs bus pairs text
      → RefusesConfig config pairs text

-- the arguments ask for a gateway with these pairs, and there is no bus file, for this cause; of the script nothing was
-- read
abbrev pub NoGatewayConfig : BusInputs → InputFault → Type 0
NoGatewayConfig i fault = (pairs : List (ℕ × ℕ)) × AsksGateway i.words pairs × Lacks i.config fault × IsUnread i.script

-- ---- the gateway and its events

-- the arguments ask for a gateway with these pairs; its bus is that of the bus file, which was read whole, and takes
-- them
pub record SetsPairs (i : BusInputs) (bus : NamedBus) (pairs : List (ℕ × ℕ)) : Type 0 where
  pub asks : AsksGateway i.words pairs
  pub of_bus : ReadsBus i.config bus
  pub is_bus : IsNamedBus bus
  pub takes : TakesPairs bus pairs

-- that is so, and there is no script, for this cause
abbrev pub NoGatewayScript : BusInputs → InputFault → Type 0
NoGatewayScript i fault = (bus : NamedBus) × (pairs : List (ℕ × ℕ)) × SetsPairs i bus pairs × Lacks i.script fault

-- that is so, and the script was read whole, and has these events
pub record SetsGateway (i : BusInputs) (bus : NamedBus) (pairs : List (ℕ × ℕ)) (events : List Event) : Type 0 where
  pub set : SetsPairs i bus pairs
  pub text : List ℕ
  pub whole : ReadsWhole i.script text
  pub has : own_events_of bus.nodes text ≡ Ok events

-- all inputs are valid, and were read whole; this holds of what they mean
abbrev pub OverGateway : BusInputs → (NamedBus → List (ℕ × ℕ) → List Event → Type 0) → Type 0
OverGateway i P =
    (bus : NamedBus) × (pairs : List (ℕ × ℕ)) × (events : List Event) × SetsGateway i bus pairs events
    × P bus pairs events

-- the arguments ask for a gateway with these pairs over the bus that the source of the bus file tells, which takes them
pub record OffersGateway (i : BusInputs) (bus : NamedBus) (pairs : List (ℕ × ℕ)) : Type 0 where
  pub asks : AsksGateway i.words pairs
  pub of_bus : OffersBus i.config bus
  pub takes : TakesPairs bus pairs
