-- Nodes that were read are a bus, and one more of them
use Rattle.std.proofs.Common.{◌≢◌, ◌≤◌, List, [], ◌∷◌, ◌++◌, length}
use Rattle.std.proofs.lemmas.List.Elements.{All-push}
use Rattle.std.proofs.lemmas.List.Quantifiers.{all_pairs_push}
use Rattle.cell_store.specs.declared.kinds.Version.{Version}
use Rattle.bus_config.specs.declared.node_lines.NodeLine.{NodeLine}
use Rattle.bus_config.specs.Buses.{IsNodeLine, most_routes}
use Rattle.bus_config.specs.Heads.{IsNewNode, AreNewNodes}

pub new_nodes-push : (version : Version) (nodes : List NodeLine) (node : NodeLine) → AreNewNodes version nodes → IsNewNode version nodes node → AreNewNodes version (nodes ++ node ∷ [])
new_nodes-push version nodes node are is = record {
  are_nodes = All-push IsNodeLine nodes node are.are_nodes is.is_node;
  own_names = all_pairs_push (λ m n. m.name ≢ n.name) nodes node are.own_names is.new;
  few = All-push (λ n. length n.config.routes ≤ most_routes version) nodes node are.few is.few;
}
