use Rattle.std.proofs.Common.{refl}
use Rattle.program_edge.specs.NamedSources.{word_source}
use Rattle.keyfile_commands.proofs.start.keyfile_words.Goals as goal

pub returns : goal.returns
returns g c =
    let state = word_source g.O.Opened.Source.state g.I.Source.state in record {
      one = record { before = state c.open_both-first.result.0; after = state c.run_keyfiles-status.new.first };
      other = record { before = state c.open_both-first.result.1; after = state c.run_keyfiles-status.new.second };
      named = rw (c.first_file.ensures, c.second_file.ensures) at c.open_both-first.ensures.named;
      opened_once = rw (c.first_file.ensures, c.second_file.ensures) at c.open_both-first.ensures.left;
      one_left = refl;
      other_left = refl;
      has = c.run_keyfiles-status.ensures;
    }
