use Rattle.std.proofs.Common.{◌≡◌, ℕ, List, [], ◌∷◌, ◌++◌, length, drop, map, ap, ◌∙◌, subst, refl}
use Rattle.std.specs.Prelude.{Option}
use Rattle.program_edge.specs.Inputs.{Reading}
use Rattle.can_logs.specs.LogRuns.{WatchEnding}
use Rattle.bus_config.specs.Buses.{NamedBus}
use Rattle.cut_disk.specs.State.{DiskState}
use Rattle.secoc_node.specs.State.{NodeState}
use Rattle.bus_world.specs.Starts.{disks_of}
use Rattle.bus_world.specs.declared.start.Start.TheVariants.{Attach}
use Rattle.bus_world.proofs.CallerLemmas.{Comes-unstarted}
use Rattle.endpoint_commands.specs.declared.rules.FrameRule.{FrameRule}
use Rattle.endpoint_commands.specs.Promises.{AnswersAll, not_started, did}
use Rattle.kept_starts.specs.KeepRows.{of_look, of_start}
use Rattle.endpoint_commands.proofs.Doing.{last_node, no_other, did_endpoint, known_at_9}
use Rattle.endpoint_commands.proofs.run.do_endpoint.Goals as goal

pub look_first-requires : goal.look_first-requires
look_first-requires g c = c.requires.one

pub returns-in-Err : goal.returns-in-Err
returns-in-Err g c = not_started (record {
  row = c.keep_refusal.result;
  comes = of_look c.in-Err.fault c.in-Err.ensures.refused c.keep_refusal.ensures;
  told = c.tell_refusal-in-Err.ensures;
}) refl refl

pub returns-in-Err-open_nodes : goal.returns-in-Err-open_nodes
returns-in-Err-open_nodes g c =
    let before : List DiskState = map g.D.Disk.state c.args.disks.now.items in
    let seen : List DiskState = map g.D.Disk.state c.look_first.new.disks.items in
    let after : List DiskState = map g.D.Disk.state c.open_nodes.new.disks.items in
    not_started (record {
      row = c.start_refusal.result;
      comes = of_start seen c.in_default.ensures.looked
          (Comes-unstarted _ Attach c.args.job.bus _ c.in-Err-open_nodes.fault c.start_refusal.result c.requires.is_bus.most c.in-Err-open_nodes.ensures.refused
          (λ nine. c.in-Err-open_nodes.ensures.unread nine
          ∙ known_at_9 _ c.args.job.bus before seen after c.in-Err-open_nodes.fault c.in_default.ensures.looked c.in-Err-open_nodes.ensures.refused
          (λ none. c.in_default.ensures.unlooked none) nine)
          c.start_refusal.ensures);
      told = c.tell_refusal-in-Err-open_nodes-2.ensures;
    }) refl refl

pub new-endpoint-requires : goal.new-endpoint-requires
new-endpoint-requires g c = c.requires.room

pub returns : goal.returns
returns g c =
    let before : List DiskState = map g.D.Disk.state c.args.disks.now.items in
    let after : List DiskState = map g.D.Disk.state c.close_nodes.new.disks.items in
    let nodes : List NodeState = c.in-Ok.nodes.items in
    let node : NodeState = c.take_last-node.result in
    let now : NodeState = c.answer_all-status.new.endpoint.node in
    let bus : NamedBus = c.args.job.bus in
    let rules : List FrameRule = c.args.job.rules.items in
    let image : Option (List ℕ) = c.args.job.image in
    let log : Reading = record { before = g.T.Source.state c.args.log.now; after = g.T.Source.state c.answer_all-status.new.log } in
    let e : WatchEnding = record {
      output = record { before = g.K.Sink.state c.args.sink.now; after = g.K.Sink.state c.answer_all-status.new.sink };
      errors = record { before = g.E.Sink.state c.args.errors.now; after = g.E.Sink.state c.answer_all-status.new.errors };
      status = c.answer_all-status.result;
    } in
    let one : length nodes ≡ 1 = c.in-Ok.ensures.opened.opened.count ∙ c.requires.one in
    let a : AnswersAll image rules node log e now =
    subst (λ (n : NodeState). AnswersAll image rules n log e now) c.new-endpoint.ensures.node
    (subst (λ (rs : List FrameRule). AnswersAll image rs c.new-endpoint.result.node log e now) c.new-endpoint.ensures.rules c.answer_all-status.ensures) in
    let left : c.push_reserved.new.self.items ≡ now ∷ [] =
    c.push_reserved.ensures.items ∙ ap (λ (ns : List NodeState). ns ++ c.release.result ∷ []) (no_other nodes c.take_last-node.new.self.items node c.take_last-node.ensures.items one)
    ∙ ap (λ (n : NodeState). n ∷ []) c.release.ensures in
    let seen : List DiskState = map g.D.Disk.state c.look_first.new.disks.items in
    let rest : map g.D.Disk.state c.open_nodes.new.disks.items ≡ drop 1 seen = c.in-Ok.ensures.rest ∙ ap (λ (n : ℕ). drop n seen) c.requires.one in
    let back : after ≡ now.store.disk ∷ drop 1 seen =
    c.close_nodes.ensures ∙ ap (λ (ns : List NodeState). disks_of ns ++ map g.D.Disk.state c.open_nodes.new.disks.items) left
    ∙ ap (λ (ds : List DiskState). now.store.disk ∷ ds) rest in
    did (did_endpoint bus rules image before seen after nodes node now log e c.requires.is_bus c.requires.one c.in_default.ensures.looked c.in-Ok.ensures.opened
    (last_node nodes c.take_last-node.new.self.items node node c.take_last-node.ensures.items one) a back c.endpoints_are_runs.ensures)
