use Rattle.std.proofs.Common.{List, [], ◌∷◌, ◌++◌, map, ap, ◌∙◌}
use Rattle.cut_disk.specs.State.{DiskState}
use Rattle.secoc_node.specs.State.{NodeState}
use Rattle.bus_world.specs.Starts.{disks_of}
use Rattle.bus_world.specs.declared.start.Start.TheVariants.{Format}
use Rattle.bus_world.proofs.CallerLemmas.{Comes-unstarted, no_disk}
use Rattle.bus_programs.proofs.CallerLemmas.{all_can_be_done}
use Rattle.gateway_commands.specs.Steps.{refused_start, first_done}
use Rattle.gateway_commands.proofs.OneRun.{gateway_stays}
use Rattle.gateway_commands.proofs.OneNode.{last_one, none_left, one_node, good_pairs, ran_gateway}
use Rattle.gateway_commands.proofs.running.do_job.Goals as goal

pub print_turns-node-requires-clause-good : goal.print_turns-node-requires-clause-good
print_turns-node-requires-clause-good g c =
    good_pairs c.args.job.bus c.args.job.pairs.items (map g.D.Disk.state c.args.disks.now.items) c.in-Ok.nodes.items c.requires.takes c.in-Ok.ensures.opened c.take_last-node.result no_disk
    (last_one c.in-Ok.nodes.items c.take_last-node.new.self.items c.take_last-node.result c.take_last-node.result c.take_last-node.ensures.items
    (one_node c.args.job.bus c.args.job.pairs.items (map g.D.Disk.state c.args.disks.now.items) c.in-Ok.nodes.items c.requires.takes c.in-Ok.ensures.opened))

pub print_turns-node-requires-clause-ready : goal.print_turns-node-requires-clause-ready
print_turns-node-requires-clause-ready g c =
    rw c.as_slice.ensures.value (all_can_be_done c.args.job.bus.nodes c.args.job.events.items c.requires.events.0)

pub returns-in-Err : goal.returns-in-Err
returns-in-Err g c = refused_start (record {
  row = c.start_refusal.result;
  comes = Comes-unstarted _ Format c.args.job.bus _ c.in-Err.fault c.start_refusal.result c.requires.is_bus.most c.in-Err.ensures.refused c.in-Err.ensures.unread c.start_refusal.ensures;
  told = c.tell_refusal-in-Err.ensures;
})

pub returns : goal.returns
returns g c =
    let before : List DiskState = map g.D.Disk.state c.args.disks.now.items in
    let one = one_node c.args.job.bus c.args.job.pairs.items before c.in-Ok.nodes.items c.requires.takes c.in-Ok.ensures.opened in
    let after : NodeState = c.print_turns-node.result.0 in
    let ran = ran_gateway c.args.job.bus c.args.job.pairs.items before c.in-Ok.nodes.items c.requires.takes c.in-Ok.ensures.opened c.take_last-node.result after
    (map g.D.Disk.state c.close_nodes.new.disks.items) c.args.job.events.items (g.K.Sink.state c.args.sink.now) (g.K.Sink.state c.print_turns-node.new.sink) c.print_turns-node.result.1
    c.requires.is_bus (last_one c.in-Ok.nodes.items c.take_last-node.new.self.items c.take_last-node.result c.take_last-node.result c.take_last-node.ensures.items one)
    (rw c.as_slice.ensures.value at c.print_turns-node.ensures)
    (c.close_nodes.ensures
    ∙ ap (λ (ns : List NodeState). disks_of ns ++ map g.D.Disk.state c.open_nodes.new.disks.items)
    (c.push_reserved.ensures.items ∙ ap (λ (ns : List NodeState). ns ++ after ∷ []) (none_left c.in-Ok.nodes.items c.take_last-node.new.self.items c.take_last-node.result c.take_last-node.ensures.items one))
    ∙ ap (λ (ds : List DiskState). disks_of (after ∷ []) ++ ds) c.in-Ok.ensures.rest) in
    first_done c.print_turns-node.result.1 (record {
      ran = ran;
      status_is = c.status_of_run.ensures;
      stay = gateway_stays c.gateway_turns_keep.ensures _ _ _ _ _ _ _ _ ran;
      one_run = c.gateways_are_runs.ensures _ _ _ _ _ _ _ _ ran;
    })
