use Rattle.std.proofs.Common.{◌∙◌, refl, sym, ap}
use Rattle.std.specs.Prelude.{option_map}
use Rattle.program_edge.specs.NamedSources.{word_source, first_of_two, second_of_two}
use Rattle.ledger_shift.specs.Words.{ran}
use Rattle.ledger_shift.proofs.start.ledger_words.Goals as goal

pub returns : goal.returns
returns g c =
    let source = word_source g.O.Opened.Source.state g.I.Source.state in
    let second = c.two_words.ensures.second ∙ ap second_of_two c.file_and_script.ensures in
    ran (record {
      file = c.in-Some.file.now;
      file_is = sym (ap first_of_two c.file_and_script.ensures) ∙ sym c.two_words.ensures.first ∙ ap (option_map (λ w. w.now)) c.in-Some.is;
      files = c.serve_file-status.ensures.opened;
      over_script = record {
        source = record { before = source c.open_word-script.result; after = source c.serve_file-status.new.script };
        named = rw second at c.open_word-script.ensures.named;
        opened_once = rw second at c.open_word-script.ensures.left;
        left_is = refl;
        has = rw c.makes_ledger.ensures at c.serve_file-status.ensures.serves;
      };
    })
