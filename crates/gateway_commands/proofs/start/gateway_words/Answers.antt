use Rattle.std.proofs.Common.{◌≡◌, ◌∙◌, length, map, ap, refl, sym, arith, inl, inr}
use Rattle.std.specs.Prelude.{string_bytes, Some}
use Rattle.bus_port.specs.MemSource.{CleanSourceState, clean_source}
use Rattle.program_edge.specs.NamedSources.{word_source}
use Rattle.program_edge.proofs.CallerLemmas.{Offers-clean}
use Rattle.bus_programs.specs.Inputs.{BusInputs, inputs_of}
use Rattle.bus_programs.specs.Named.{ran_example, ran_words, ran_nothing}
use Rattle.bus_programs.proofs.CallerLemmas.{no_words, some_words, unopened_wants}
use Rattle.gateway_commands.specs.declared.example.TheConstants.{BUS, SCRIPT}
use Rattle.gateway_commands.proofs.OfWords.{gateway_told, is_some_from_asks, asks_from_is_some}
use Rattle.gateway_commands.proofs.start.gateway_words.Goals as goal

pub returns-in_default : goal.returns-in_default
returns-in_default g c =
    let none = c.unopened.ensures in
    let empty = no_words string_bytes c.args.words.now (sym c.is_empty.ensures ∙ c.if-is_empty.true) in
    gateway_told (ran_nothing (inr empty) (unopened_wants none.status none.config none.script))

pub returns-then-is_empty : goal.returns-then-is_empty
returns-then-is_empty g c =
    let bus_size : length BUS.now ≡ 214 = refl in
    let script_size : length SCRIPT.now ≡ 165 = refl in
    let told = λ (s : CleanSourceState). Some s.left in
    let i : BusInputs = inputs_of (map string_bytes c.as_slice-texts.result.now) (clean_source c.new-config.result) (clean_source c.run_gateway-status.new.config)
    (clean_source c.new-script.result) (clean_source c.run_gateway-status.new.script) in
    gateway_told (ran_example (no_words string_bytes c.args.words.now (sym c.is_empty.ensures ∙ c.if-is_empty.true)) refl (rw c.unopened-then-is_empty.ensures.status (record {
      inputs = i;
      is = record {
        words_are = ap (map string_bytes) c.as_slice-texts.ensures.value ∙ c.in-Ok.ensures.words;
        config = Offers-clean i.config BUS.now (ap told c.new-config.ensures) (omega (arith, bus_size)) refl;
        script = Offers-clean i.script SCRIPT.now (ap told c.new-script.ensures) (omega (arith, script_size)) refl;
      };
      ran = record { made = c.in-Ok.example.1; left = c.run_gateway-status.new.disks; given = λ asks. c.in-Ok.ensures.disks; runs = c.run_gateway-status.ensures };
    })))

pub returns-in_default-asked_pairs : goal.returns-in_default-asked_pairs
returns-in_default-asked_pairs g c =
    let none = c.unopened-in_default-asked_pairs.ensures in
    gateway_told (ran_nothing (inl c.in_default-asked_pairs.ensures.wanted) (unopened_wants none.status none.config none.script))

pub returns-in_default-disks_if : goal.returns-in_default-disks_if
returns-in_default-disks_if g c =
    let none = c.unopened-in_default-disks_if.ensures in
    let asks = asks_from_is_some (map string_bytes c.args.words.now) c.in-Ok-asked_pairs.asked c.in-Ok-asked_pairs.ensures.asked (sym c.is_some-2.ensures ∙ c.in_default-disks_if.ensures.wanted) in
    gateway_told (ran_nothing (inl asks) (unopened_wants none.status none.config none.script))

pub returns : goal.returns
returns g c =
    let state = word_source g.O.Opened.Source.state g.I.Source.state in
    let words = map string_bytes c.args.words.now in
    gateway_told (ran_words (some_words string_bytes c.args.words.now (sym c.is_empty.ensures ∙ c.if-is_empty.false)) (record {
      config = _;
      script = _;
      names = c.source_words.ensures;
      over = record {
        one = record { before = state c.open_both-config.result.0; after = state c.run_asked-status.new.config };
        other = record { before = state c.open_both-config.result.1; after = state c.run_asked-status.new.script };
        named = c.open_both-config.ensures.named;
        opened_once = c.open_both-config.ensures.left;
        one_left = refl;
        other_left = refl;
        has = record {
          made = c.in-Ok-disks_if.disks;
          left = c.run_asked-status.new.disks;
          given = λ asks. c.in-Ok-disks_if.ensures.given (c.is_some-2.ensures ∙ is_some_from_asks words c.in-Ok-asked_pairs.asked c.in-Ok-asked_pairs.ensures.asked asks);
          runs = c.run_asked-status.ensures words c.in-Ok-asked_pairs.ensures.asked;
        };
      };
    }))
