use Rattle.std.proofs.Common.{refl}
use Rattle.program_edge.specs.NamedSources.{word_source}
use Rattle.bus_store_commands.proofs.start.bus_check_words.Goals as goal

pub returns : goal.returns
returns g c =
    let state = word_source g.O.Opened.Source.state g.I.Source.state in record {
      one = record { before = state c.open_both-file.result.0; after = state c.run_bus_check-status.new.file };
      other = record { before = state c.open_both-file.result.1; after = state c.run_bus_check-status.new.bus };
      named = rw (c.file_over_bus.ensures, c.file_over_bus-2.ensures) at c.open_both-file.ensures.named;
      opened_once = rw (c.file_over_bus.ensures, c.file_over_bus-2.ensures) at c.open_both-file.ensures.left;
      one_left = refl;
      other_left = refl;
      has = c.run_bus_check-status.ensures;
    }
