-- What the words of a gateway name, and what comes of them
use Rattle.std.specs.Prelude.{◌≡◌, ◌⊎◌, ℕ, List, map, take, Option, None}
use Rattle.bus_port.specs.Source.{SourceState}
use Rattle.program_edge.specs.NamedSources.{Openings, first_of_two, second_of_two}
use Rattle.program_edge.specs.Endings.{Ending}
use Rattle.bus_programs.specs.Inputs.{BusInputs}
use Rattle.bus_programs.specs.Named.{SourcesBack, RunsOverMade, IsExample, RunOfWords, StatusesOf}
use Rattle.gateway_commands.specs.Words.{AsksNoGateway, AsksSomeGateway}
use Rattle.gateway_commands.specs.Promises.{RunsGateway}
use Rattle.gateway_commands.specs.declared.example.TheConstants.{WORDS, BUS, SCRIPT}

-- the first two words name the bus file and the script, if the words are of the form; words of another form name none
abbrev pub NamesFirstTwo : List (List ℕ) → Option (List ℕ) → Option (List ℕ) → Type 0
NamesFirstTwo words bus script =
    (AsksSomeGateway words × (bus ≡ first_of_two (take 2 words)) × (script ≡ second_of_two (take 2 words)))
    ⊎ (AsksNoGateway words × (bus ≡ None) × (script ≡ None))

-- the worked example
abbrev pub IsExampleGateway : BusInputs → Type 0
IsExampleGateway i = IsExample (map (λ text. text.now) WORDS) BUS.now SCRIPT.now i

-- all that a gateway promises, of the disk that was made for it: one of 65,536 bytes, where the words ask for one
abbrev pub GatewayOverMade : BusInputs → Ending → Type 0
GatewayOverMade i e = RunsOverMade AsksSomeGateway 1 RunsGateway i e

-- what comes of the words, and what the statuses say of them
abbrev pub GatewayOfWords : (List ℕ → SourceState → Type 0) → Openings → Openings → SourcesBack → List (List ℕ) → Ending
    → Type 0
GatewayOfWords opens before after back words e =
    RunOfWords AsksSomeGateway NamesFirstTwo IsExampleGateway GatewayOverMade opens before after back words e
    × StatusesOf AsksNoGateway words e.status
