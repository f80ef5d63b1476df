-- A bus by its names: its nodes under their names, and the stores that they keep (own)
use Rattle.std.specs.Prelude.{◌≢◌, ℕ, ◌≤◌, ◌==◌, bytes_eq, IsTrue, if◌then◌else◌, Option, None, Some, List, [], ◌∷◌}
use Rattle.std.specs.Prelude.{◌++◌, length, map, filter, flat_map, position, All, AllPairs}
use Rattle.std.specs.List.{list_any}
use Rattle.cell_store.specs.declared.kinds.Kind.{Kind}
use Rattle.cell_store.specs.declared.kinds.Version.{Version}
use Rattle.cell_store.specs.declared.kinds.Version.TheVariants.{One, Two}
use Rattle.freshness_routes.specs.declared.config.TheConstants.{MOST_ROUTES}
use Rattle.freshness_routes.specs.declared.routes.Direction.TheVariants.{Sends}
use Rattle.freshness_routes.specs.declared.routes.Route.{Route}
use Rattle.freshness_routes.specs.Config.{Config, IsConfig}
use Rattle.bus_machine.specs.Node.{same_direction}
use Rattle.bus_config.specs.declared.node_lines.NodeLine.{NodeLine}
use Rattle.bus_config.specs.Names.{is_name}

-- the kind and the version of the stores, and the nodes in their order
pub record NamedBus : Type 0 where
  pub kind : Kind
  pub version : Version
  pub nodes : List NodeLine

-- how many routes a node has at most
abbrev pub most_routes : Version → ℕ
most_routes One = 64
most_routes Two = MOST_ROUTES

-- the Data IDs that these routes send, in their order
abbrev pub ids_sent_by : List Route → List ℕ
ids_sent_by routes = map (λ route. route.id) (filter (λ route. same_direction route.direction Sends) routes)

-- the Data IDs that these nodes send, in the order of the nodes and of their routes
abbrev pub ids_sent : List NodeLine → List ℕ
ids_sent nodes = flat_map (λ node. ids_sent_by node.config.routes) nodes

-- the first of the list that stands before it, be it in the list or among those before
abbrev pub again_after : List ℕ → List ℕ → Option ℕ
again_after before [] = None
again_after before (id ∷ ids) =
    if list_any (λ one. one == id) before then Some id else again_after (before ++ id ∷ []) ids

-- the first Data ID in order that is sent by a route and by an earlier one
abbrev pub sent_again : List NodeLine → Option ℕ
sent_again nodes = again_after [] (ids_sent nodes)

-- a node has a name and a configuration
pub record IsNodeLine (node : NodeLine) : Type 0 where
  pub named : IsTrue (is_name node.name)
  pub config : IsConfig node.config

-- 1 to 8 nodes, whose names differ, each with no more routes than its version has; and each Data ID is sent by one
-- route
pub record IsNamedBus (bus : NamedBus) : Type 0 where
  pub least : 1 ≤ length bus.nodes
  pub most : length bus.nodes ≤ 8
  pub are_nodes : All IsNodeLine bus.nodes
  pub own_names : AllPairs (λ m n. m.name ≢ n.name) bus.nodes
  pub few_routes : All (λ node. length node.config.routes ≤ most_routes bus.version) bus.nodes
  pub sent_once : AllPairs (λ i j. i ≢ j) (ids_sent bus.nodes)

-- the place of the first node with this name, counted from 0
abbrev pub place_named : List NodeLine → List ℕ → Option ℕ
place_named nodes name = position (λ node. bytes_eq node.name name) nodes

-- the configurations of the nodes, as the machine of the bus has them
abbrev pub configs_of : NamedBus → List Config
configs_of bus = map (λ node. node.config) bus.nodes
