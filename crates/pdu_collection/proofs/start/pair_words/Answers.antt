use Rattle.std.proofs.Common.{◌≡◌, length, ap, refl, arith}
use Rattle.std.specs.Prelude.{Some}
use Rattle.bus_port.specs.MemSource.{CleanSourceState, clean_source}
use Rattle.program_edge.specs.Inputs.{Reading}
use Rattle.program_edge.specs.NamedSources.{word_source}
use Rattle.program_edge.proofs.CallerLemmas.{Offers-clean}
use Rattle.pdu_collection.specs.declared.start.TheConstants.{EXAMPLE}
use Rattle.pdu_collection.proofs.start.pair_words.Goals as goal

pub returns-then-is_empty-clause-example : goal.returns-then-is_empty-clause-example
returns-then-is_empty-clause-example g c none =
    let size : length EXAMPLE.now ≡ 109 = refl in
    let read : Reading =
    record { before = clean_source c.new-script.result; after = clean_source c.run_pairs-status.new.script } in
    let told = ap (λ (s : CleanSourceState). Some s.left) c.new-script.ensures in (
      record { words = _; script = read },
      (refl, Offers-clean read EXAMPLE.now told (omega (arith, size)) refl),
      c.run_pairs-status.ensures,
    )

pub returns-clause-named : goal.returns-clause-named
returns-clause-named g c some =
    let state = word_source g.O.Opened.Source.state g.I.Source.state in record {
      source = record { before = state c.open_one-script.result; after = state c.run_pairs-status-2.new.script };
      named = c.open_one-script.ensures.named;
      opened_once = c.open_one-script.ensures.left;
      left_is = refl;
      has = c.run_pairs-status-2.ensures;
    }
