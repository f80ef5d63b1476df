-- The events of the worked example
use Rattle.std.specs.Prelude.{◌≡◌, ℕ, List, [], ◌∷◌}
use Rattle.secoc_gateway.specs.Words.{Update}
use Rattle.bus_machine.specs.declared.events.Event.{Event}
use Rattle.bus_machine.specs.declared.events.Event.TheVariants.{Key, Inject}
use Rattle.bus_config.specs.Buses.{NamedBus}
use Rattle.bus_programs.specs.Inputs.{BusInputs}
use Rattle.gateway_commands.specs.Inputs.{SetsGateway}
use Rattle.gateway_commands.specs.Named.{IsExampleGateway}

-- a key update, and one arrival, which comes twice
abbrev pub AreReplay : List Event → Type 0
AreReplay events = (node : ℕ) × (update : Update) × (authkey : List ℕ) × (id : ℕ) × (pdu : List ℕ)
    × (events ≡ Key node update authkey ∷ Inject node id pdu ∷ Inject node id pdu ∷ [])

-- the events of the worked example are so, whatever bus its bus file has. Nothing is said of what is answered
abbrev pub ExampleReplays : Type 0
ExampleReplays = (i : BusInputs) (bus : NamedBus) (pairs : List (ℕ × ℕ)) (events : List Event)
    → IsExampleGateway i → SetsGateway i bus pairs events → AreReplay events
