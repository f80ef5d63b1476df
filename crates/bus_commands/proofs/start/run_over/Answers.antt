use Rattle.std.proofs.Common.{refl}
use Rattle.program_edge.specs.NamedSources.{word_source}
use Rattle.bus_commands.proofs.start.run_over.Goals as goal

pub run_asked-status-requires : goal.run_asked-status-requires
run_asked-status-requires g c = (c.requires.0, c.requires.1.asks)

pub returns : goal.returns
returns g c words asked =
    let state = word_source g.O.Opened.Source.state g.I.Source.state in
    record {
      config = _;
      script = _;
      names = (asked.names_config, asked.names_script);
      over = record {
        one = record { before = state c.open_both-config.result.0; after = state c.run_asked-status.new.config };
        other = record { before = state c.open_both-config.result.1; after = state c.run_asked-status.new.script };
        named = c.open_both-config.ensures.named;
        opened_once = c.open_both-config.ensures.left;
        one_left = refl;
        other_left = refl;
        has = c.run_asked-status.ensures words asked.asks;
      };
    }
