use Rattle.std.proofs.Common.{[], refl, sym}
use Rattle.std.proofs.lemmas.List.{append-nil}
use Rattle.program_edge.specs.NamedSources.{word_source}
use Rattle.bus_commands.proofs.AskedWords.{names_node}
use Rattle.bus_commands.proofs.NodeEnds.{kept_refused, node_kept}
use Rattle.bus_commands.proofs.keeping.keep_node.Goals as goal

pub keep_on_disk-status-requires : goal.keep_on_disk-status-requires
keep_on_disk-status-requires g c =
    (c.in-Ok.ensures c.requires.0 (names_node c.requires.0 c.args.path.now c.requires.1)).0

pub returns-in-Ok-clause-runs : goal.returns-in-Ok-clause-runs
returns-in-Ok-clause-runs g c plain names disk =
    let state = word_source g.O.Opened.Source.state g.I.Source.state in
    node_kept g.P.Opened.Disk.state _ _ _ _ _ plain _ c.args.path.now disk c.in-Ok.job (record {
      config = _;
      script = _;
      names = names;
      over = record {
        one = record { before = state c.open_both-bus.result.0; after = state c.world_job.new.config };
        other = record { before = state c.open_both-bus.result.1; after = state c.world_job.new.script };
        named = c.open_both-bus.ensures.named;
        opened_once = c.open_both-bus.ensures.left;
        one_left = refl;
        other_left = refl;
        has = c.in-Ok.ensures plain (names_node plain c.args.path.now disk);
      };
    }) c.keep_on_disk-status.ensures.does

pub returns-in-Err-clause-makes : goal.returns-in-Err-clause-makes
returns-in-Err-clause-makes g c = ([], sym (append-nil _), sym (append-nil _))

pub returns-in-Err-clause-runs : goal.returns-in-Err-clause-runs
returns-in-Err-clause-runs g c plain names disk =
    let state = word_source g.O.Opened.Source.state g.I.Source.state in
    kept_refused g.P.Opened.Disk.state _ _ _ _ _ plain _ c.args.path.now disk refl c.new.ensures.items (record {
      config = _;
      script = _;
      names = names;
      over = record {
        one = record { before = state c.open_both-bus.result.0; after = state c.world_job.new.config };
        other = record { before = state c.open_both-bus.result.1; after = state c.world_job.new.script };
        named = c.open_both-bus.ensures.named;
        opened_once = c.open_both-bus.ensures.left;
        one_left = refl;
        other_left = refl;
        has = record {
          row = c.in-Err.refusal;
          comes = c.in-Err.ensures plain (names_node plain c.args.path.now disk);
          told = c.tell_refusal.ensures;
        };
      };
    })
