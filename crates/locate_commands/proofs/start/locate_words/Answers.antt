use Rattle.std.proofs.Common.{refl}
use Rattle.program_edge.specs.NamedSources.{word_source}
use Rattle.locate_commands.proofs.start.locate_words.Goals as goal

pub returns : goal.returns
returns g c =
    let state = word_source g.O.Opened.Source.state g.I.Source.state in record {
      one = record { before = state c.open_two-map.result.0; after = state c.run_locate-status.new.map };
      other = record { before = state c.open_two-map.result.1; after = state c.run_locate-status.new.log };
      named = rw (← c.inputs_asked.ensures) c.open_two-map.ensures.named;
      opened_once = rw (← c.inputs_asked.ensures) c.open_two-map.ensures.left;
      one_left = refl;
      other_left = refl;
      has = c.run_locate-status.ensures;
    }
