-- What a bus file means: its bus, or the first fault in the order of root, nodes, routes and senders (own; the file is
-- a TOML 1.1 document)
use Rattle.std.specs.Prelude.{ℕ, ◌+◌, if◌then◌else◌, Option, Some, None, List, [], ◌∷◌, ◌++◌, length, Result, Ok, Err}
use Rattle.std.specs.Option.{ok_or}
use Rattle.std.specs.Str.{is_utf8}
use Rattle.toml.specs.Data.{Data, Members}
use Rattle.toml.specs.Parse.{parse_document}
use Rattle.cell_store.specs.declared.kinds.Version.{Version}
use Rattle.freshness_routes.specs.declared.routes.Route.{Route}
use Rattle.text_lines.specs.Readings.{◌>>=◌}
use Rattle.bus_config.specs.declared.node_lines.NodeLine.{NodeLine}
use Rattle.bus_config.specs.Buses.{NamedBus, sent_again}
use Rattle.bus_config.specs.declared.fault.ConfigFault.{ConfigFault}
use Rattle.bus_config.specs.declared.fault.ConfigFault.TheVariants as fault
use Rattle.bus_config.specs.Rows.{next_route, next_head, root_in}

-- the routes of node `node`, after those of it that were read; routes and nodes count from 1
unfoldable pub routes_from : ℕ → List Route → List Data → Result (List Route) ConfigFault
routes_from node before [] = Ok before
routes_from node before (row ∷ rows) = do
  route ← ok_or (next_route before row) (fault.Route node (length before + 1))
  routes_from node (before ++ route ∷ []) rows

-- a node after those that were read
unfoldable pub next_node : Version → List NodeLine → Data → Result NodeLine ConfigFault
next_node version before row = do
  head ← ok_or (next_head version before row) (fault.Node (length before + 1))
  routes ← routes_from (length before + 1) [] head.rows
  Ok (record { name = head.name; config = record { uid = head.uid; routes = routes } })

-- the nodes, after those that were read
unfoldable pub nodes_from : Version → List NodeLine → List Data → Result (List NodeLine) ConfigFault
nodes_from version before [] = Ok before
nodes_from version before (row ∷ rows) = do
  node ← next_node version before row
  nodes_from version (before ++ node ∷ []) rows

-- nodes, if no two of their routes send one Data ID
abbrev pub refused_again : Option ℕ → List NodeLine → Result (List NodeLine) ConfigFault
refused_again None nodes = Ok nodes
refused_again (Some id) nodes = Err (fault.Sender id)

-- the bus of a parsed document
unfoldable pub bus_in : Members → Result NamedBus ConfigFault
bus_in table = do
  root ← ok_or (root_in table) fault.Root
  nodes ← nodes_from root.version [] root.rows
  sound ← refused_again (sent_again nodes) nodes
  Ok (record { kind = root.kind; version = root.version; nodes = sound })

-- a document, if the bytes are UTF-8 and one
abbrev pub document_of : List ℕ → Option Members
document_of text = if is_utf8 text then parse_document text else None

-- the bus of a file
abbrev pub bus_of : List ℕ → Result NamedBus ConfigFault
bus_of text = do
  table ← ok_or (document_of text) fault.Toml
  bus_in table
