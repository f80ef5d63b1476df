-- How the definitions see what the code holds of a root or a node while it reads, and what is known of it
use Rattle.std.specs.Prelude.{◌≢◌, ◌≤◌, IsTrue, All, AllPairs, List, length, map, replicate}
use Rattle.toml.specs.View.{view}
use Rattle.cell_store.specs.declared.kinds.Version.{Version}
use Rattle.memory_update.specs.Identifier.{IsUid}
use Rattle.bus_config.specs.declared.node_lines.NodeLine.{NodeLine}
use Rattle.bus_config.specs.Names.{is_name}
use Rattle.bus_config.specs.Buses.{IsNodeLine, most_routes}
use Rattle.bus_config.specs.declared.heads.NodeHead.{NodeHead as HeldHead}
use Rattle.bus_config.specs.declared.heads.Root.{Root as HeldRoot}
use Rattle.bus_config.specs.Rows.{NodeHead, Root}

abbrev pub head_view : HeldHead → NodeHead
head_view head = record { name = head.name; uid = head.uid; rows = map view head.rows.now }

abbrev pub root_view : HeldRoot → Root
root_view root = record { kind = root.kind; version = root.version; rows = map view root.rows.now }

-- a head after nodes that were read
pub record IsNewHead (version : Version) (before : List NodeLine) (head : HeldHead) : Type 0 where
  pub named : IsTrue (is_name head.name)
  pub new : All (λ n. n.name ≢ head.name) before
  pub is_uid : IsUid head.uid
  pub not_zero : head.uid ≢ replicate 15 0
  pub few : length head.rows.now ≤ most_routes version

-- a node after nodes that were read
pub record IsNewNode (version : Version) (before : List NodeLine) (node : NodeLine) : Type 0 where
  pub is_node : IsNodeLine node
  pub new : All (λ n. n.name ≢ node.name) before
  pub few : length node.config.routes ≤ most_routes version

-- nodes that were read
pub record AreNewNodes (version : Version) (nodes : List NodeLine) : Type 0 where
  pub are_nodes : All IsNodeLine nodes
  pub own_names : AllPairs (λ m n. m.name ≢ n.name) nodes
  pub few : All (λ n. length n.config.routes ≤ most_routes version) nodes
