-- What comes of the words of a chart, and that the disks that are made for it are enough
use Rattle.std.specs.Prelude.{◌≡◌, ℕ, ◌==◌, true, List, length, map}
use Rattle.std.proofs.Common.{arith, ap, sym, ◌∙◌}
use Rattle.std.proofs.lemmas.Bool.Decides.{nat_tests}
use Rattle.std.proofs.lemmas.List.{length-map}
use Rattle.bus_port.specs.Source.{SourceState}
use Rattle.program_edge.specs.Endings.{Ending}
use Rattle.program_edge.specs.NamedSources.{Openings}
use Rattle.bus_programs.specs.Inputs.{BusInputs}
use Rattle.bus_programs.specs.Blank.{disk_states}
use Rattle.bus_programs.specs.Named.{SourcesBack, RunOfWords, StatusesOf}
use Rattle.bus_programs.proofs.CallerLemmas.{blank_has_room, blank_no_cause, words_told}
use Rattle.chart_commands.specs.Inputs.{AsksChart}
use Rattle.chart_commands.specs.Named.{NamesBoth, IsExampleChart, ChartsOverMade, ChartOfWords}

-- what the statuses say of a chart over the disks that are made: the bus is started, or wants memory
over_told : (i : BusInputs) (e : Ending) → ChartsOverMade i e → StatusesOf (λ words. ¬ AsksChart words) i.words e.status
over_told i e charts = record {
  usage = λ two. (charts.runs.usage_told two).0;
  usage_only = λ some other. charts.runs.usage_only other;
  starts = (
    λ nine. (
        let (bus, events, set, (same, (fault, finds, told))) = charts.runs.disks_refused nine in
        blank_has_room 8 65536 charts.made.items bus fault set.set.is_bus.most (omega arith) (charts.given set.set.asks) set.set.is_bus finds
        ),
    λ ten. (
        let (bus, events, set, (left, (fault, cause, told))) = charts.runs.store_refused ten in
        blank_no_cause 8 65536 charts.made.items bus (disk_states charts.left.items) fault (charts.given set.set.asks) cause
        ),
  );
}

-- so what comes of the words says what they do
pub chart_told : {opens : List ℕ → SourceState → Type 0} → {before after : Openings} → {back : SourcesBack}
    → {words : List (List ℕ)} → {e : Ending}
    → RunOfWords AsksChart NamesBoth IsExampleChart ChartsOverMade opens before after back words e
    → ChartOfWords opens before after back words e
chart_told {e = e} ran = (ran, words_told (λ two. cc) (λ asks other. other asks) (λ i charts. over_told i e charts) ran)

-- words that ask for a chart are counted as two, and only these
pub two_asked : {A : Type 0} (f : A → List ℕ) (words : List A) → AsksChart (map f words) → (length words == 2) ≡ true
two_asked f words asks = ap (λ (n : ℕ). n == 2) (sym (length-map words f) ∙ asks)

pub asked_two : {A : Type 0} (f : A → List ℕ) (words : List A) → (length words == 2) ≡ true → AsksChart (map f words)
asked_two f words two = let is : length words ≡ 2 = grind (arith, nat_tests) in length-map words f ∙ is
