use Rattle.std.proofs.Common.{◌≡◌, ◌+◌, Ok, [], ◌∷◌, length, ap, sym, subst, ◌∙◌}
use Rattle.std.proofs.lemmas.List.{length-append}
use Rattle.toml.specs.View.{view}
use Rattle.bus_config.specs.BusFile.{next_node}
use Rattle.bus_config.specs.Heads.{IsNewNode, AreNewNodes}
use Rattle.bus_config.proofs.NodeRows.{nodes_left, node_kept}
use Rattle.bus_config.proofs.BusReadings.{new_nodes-push}
use Rattle.bus_config.proofs.nodes.read_nodes.Goals as goal

pub loop-row-preserved : goal.loop-row-preserved
loop-row-preserved c =
    let version = c.args.version in
    let rows = c.args.rows.now in
    let i = c.loop-row.row-index in
    let nodes = c.loop-row.nodes.items in
    let row = c.row-item.result in
    let node = c.in_ok-node.node in
    let listed = c.as_slice.ensures.value in
    let pushed = c.in_ok-push.ensures.items in
    let next : next_node version nodes (view row) ≡ Ok node = subst (λ ns. next_node version ns (view row) ≡ Ok node) listed c.in_ok-node.ensures.exact in
    record {
      whole =
          ap (λ ns. nodes_left version ns rows (i + 1)) pushed
          ∙ sym (node_kept version nodes rows i row node c.loop-row-test.true (sym c.row-item.is) next)
          ∙ c.loop-row.invariant.whole;
      counted = ap length pushed ∙ length-append nodes (node ∷ []) ∙ ap (λ n. n + 1) c.loop-row.invariant.counted;
      new = subst (AreNewNodes version) (sym pushed) (new_nodes-push version nodes node c.loop-row.invariant.new (subst (λ ns. IsNewNode version ns node) listed c.in_ok-node.ensures.new));
    }
