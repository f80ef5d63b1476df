-- What the parts of a node in memory mean, and what is true of them and of its store
use Rattle.std.specs.Prelude.{◌≡◌, ℕ, ◌+◌, ◌<◌, true, Option, None, Some, List, length, map}
use Rattle.cell_store.specs.Cells.{CellsState}
use Rattle.she_engine.specs.declared.engine.Engine.{Engine}
use Rattle.she_engine.specs.declared.engine.PendingSlot.{PendingSlot}
use Rattle.secure_boot.specs.declared.state.BootState.TheVariants.{Undecided}
use Rattle.slot_disk.specs.Cell.{HoldSlots}
use Rattle.freshness_routes.specs.Config.{Config}
use Rattle.freshness_routes.specs.declared.config.TheConstants.{MOST_ROUTES}
use Rattle.freshness_routes.specs.declared.routes.Direction.{Direction}
use Rattle.freshness_routes.specs.declared.routes.Route.{Route}
use Rattle.bus_machine.specs.Node.{Node, Kept, Change, slot_to, bound_to, place_in}
use Rattle.bus_machine.specs.Sound.{Sound}
use Rattle.secoc_node.specs.Cells.{route_in}
use Rattle.secoc_node.specs.Counters.{freshness_in, bound_in, CountRoutes, BeginRoutes}
use Rattle.store_keeping.specs.Keeping.{HoldsKept}
use Rattle.secoc_node.specs.Fits.{node_keeping}
use Rattle.secoc_node.specs.State.{NodeState}
use Rattle.secoc_node.specs.declared.counters.RouteCounter.{RouteCounter}
use Rattle.secoc_node.specs.declared.known.Known.{Known}
use Rattle.secoc_node.specs.declared.known.PendingBound.{PendingBound}

-- what is kept, as memory has it
abbrev pub kept_in : Engine → List RouteCounter → Kept
kept_in engine counters = record { slots = engine.slots; bounds = map bound_in counters }

-- the change that is pending: the engine's slot, or a route's bound
abbrev pub pending_in : Option PendingSlot → Option PendingBound → Option Change
pending_in (Some p) bound = Some (slot_to p.target p.slot)
pending_in None (Some b) = Some (bound_to b.route b.bound)
pending_in None None = None

-- the node of the machine that this is
abbrev pub node_in : Known → Node
node_in known = record {
  config = known.config;
  kept = kept_in known.engine known.counters.items;
  boot = known.engine.boot;
  counters = map freshness_in known.counters.items;
  up = known.up;
  pending = pending_in known.engine.pending known.pending;
}

abbrev pub state_in : Known → CellsState → NodeState
state_in known store = record { node = node_in known; store = store }

-- the store isn't broken, and has the cells of what the node keeps
abbrev pub KeepsNode : Node → CellsState → Type 0
KeepsNode node store = HoldsKept (node_keeping node) store

-- the node is sound, its engine is its own, and each route has its counter. While it is up its store has the cells of
-- what it keeps
pub record IsNode (known : Known) (store : CellsState) : Type 0 where
  pub sound : Sound (node_in known)
  pub own : known.engine.uid ≡ known.config.uid
  pub counted : CountRoutes known.config.routes known.counters.items
  pub count : length store.cells ≡ 14 + length known.config.routes
  pub keeps : known.up ≡ true → KeepsNode (node_in known) store

-- what is known where a life begins over these cells
pub record BeginsLife (config : Config) (cells : List (List ℕ)) (known : Known) : Type 0 where
  pub config_is : known.config ≡ config
  pub up : known.up ≡ true
  pub no_bound : known.pending ≡ None
  pub own : known.engine.uid ≡ config.uid
  pub undecided : known.engine.boot ≡ Undecided
  pub no_slot : known.engine.pending ≡ None
  pub slots : HoldSlots cells known.engine.slots
  pub counters : BeginRoutes config.routes cells known.counters.items

-- the place of the route with this Data ID and direction, and the route there
pub record FindsRoute (routes : List Route) (id : ℕ) (direction : Direction) (place : ℕ) (route : Route) : Type 0 where
  pub place_is : place ≡ place_in routes id direction
  pub inside : place < length routes
  pub route_is : route ≡ route_in routes place
  pub few : place < MOST_ROUTES
