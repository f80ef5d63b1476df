use Rattle.std.proofs.Common.{refl}
use Rattle.program_edge.specs.NamedSources.{word_source}
use Rattle.derive_commands.proofs.run.derive_words.Goals as goal

pub returns : goal.returns
returns g c =
    let state = word_source g.O.Opened.Source.state g.I.Source.state in record {
      source = record { before = state c.open_word-file.result; after = state c.tell_derived-status.new.file };
      named = rw c.master_file.ensures at c.open_word-file.ensures.named;
      opened_once = rw c.master_file.ensures at c.open_word-file.ensures.left;
      left_is = refl;
      has = c.tell_derived-status.ensures;
    }
