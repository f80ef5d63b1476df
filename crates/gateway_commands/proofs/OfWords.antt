-- The disk that is made for a gateway is enough
use Rattle.std.specs.Prelude.{◌≡◌, ℕ, List, Option, Some, None, true, is_some, Vec}
use Rattle.std.specs.declared.alloc.Global.{Global}
use Rattle.std.proofs.Common.{refl, arith}
use Rattle.bus_port.specs.Source.{SourceState}
use Rattle.program_edge.specs.Endings.{Ending}
use Rattle.program_edge.specs.NamedSources.{Openings}
use Rattle.bus_programs.specs.Inputs.{BusInputs}
use Rattle.bus_programs.specs.Blank.{disk_states}
use Rattle.bus_programs.specs.Named.{SourcesBack, RunOfWords, StatusesOf}
use Rattle.bus_programs.proofs.CallerLemmas.{blank_has_room, blank_no_cause, words_told}
use Rattle.gateway_commands.specs.Words.{AsksSomeGateway, AsksNoGateway}
use Rattle.gateway_commands.specs.Steps.{AsksPairs}
use Rattle.gateway_commands.specs.Named.{NamesFirstTwo, IsExampleGateway, GatewayOverMade, GatewayOfWords}

-- what the statuses say of a gateway over the disk that is made, which is started, or wants memory
over_told : (i : BusInputs) (e : Ending) → GatewayOverMade i e → StatusesOf AsksNoGateway i.words e.status
over_told i e over = record {
  usage = λ two. (over.runs.usage_told two).0;
  usage_only = λ some other. over.runs.usage_only other;
  starts = (
    λ nine. (
        let (bus, pairs, events, set, (same, (fault, finds, told))) = over.runs.disks_refused nine in
        blank_has_room 1 65536 over.made.items bus fault (omega (arith, set.set.takes.one)) (omega arith) (over.given (pairs, set.set.asks)) set.set.is_bus finds
        ),
    λ ten. (
        let (bus, pairs, events, set, (left, (fault, cause, told))) = over.runs.store_refused ten in
        blank_no_cause 1 65536 over.made.items bus (disk_states over.left.items) fault (over.given (pairs, set.set.asks)) cause
        ),
  );
}

-- so what comes of the words says what they do
pub gateway_told : {opens : List ℕ → SourceState → Type 0} → {before after : Openings} → {back : SourcesBack}
    → {words : List (List ℕ)} → {e : Ending}
    → RunOfWords AsksSomeGateway NamesFirstTwo IsExampleGateway GatewayOverMade opens before after back words e
    → GatewayOfWords opens before after back words e
gateway_told {e = e} ran =
    (ran, words_told (λ pairs asks. asks) (λ asks none. none asks.0 asks.1) (λ i over. over_told i e over) ran)

-- words that ask for a gateway give pairs, and only such words do
pub is_some_from_asks : (words : List (List ℕ)) (asked : Option (Vec (ℕ × ℕ) Global)) → AsksPairs words asked → AsksSomeGateway words → is_some asked ≡ true
is_some_from_asks words None none asks = absurd (none asks.0 asks.1)
is_some_from_asks words (Some pairs) given asks = refl

pub asks_from_is_some : (words : List (List ℕ)) (asked : Option (Vec (ℕ × ℕ) Global)) → AsksPairs words asked → is_some asked ≡ true → AsksSomeGateway words
asks_from_is_some words None none some = absurd (let no : ⊥ = cc some in no)
asks_from_is_some words (Some pairs) given some = (pairs.items, given)
