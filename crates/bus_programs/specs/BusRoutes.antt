-- A bus of one node, and its routes
use Rattle.std.specs.Prelude.{◌≡◌, ◌≢◌, List, length, codes, Result, Ok, Err}
use Rattle.text_lines.specs.Texts.{line}
use Rattle.program_edge.specs.Rows.{Row, row_of}
use Rattle.freshness_routes.specs.declared.routes.Route.{Route}
use Rattle.bus_config.specs.Buses.{NamedBus}
use Rattle.bus_script.specs.EventForms.{node_line_at}

-- the routes of the one node of a bus
abbrev pub routes_of : NamedBus → List Route
routes_of bus = (node_line_at bus.nodes 0).config.routes

-- the bus has one node, or is refused
abbrev pub HasOneNode : NamedBus → Result (Unit {0}) Row → Type 0
HasOneNode bus (Ok _) = length bus.nodes ≡ 1
HasOneNode bus (Err row) = (length bus.nodes ≢ 1) × (row ≡ row_of 3 (line (codes "config: nodes")))
