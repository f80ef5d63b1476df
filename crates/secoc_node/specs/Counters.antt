-- The counters of a node's routes while it is up
use Rattle.std.specs.Prelude.{◌≡◌, ℕ, ◌+◌, ◌<◌, ◌≤◌, List, length, All, slice_index_or}
use Rattle.freshness_routes.specs.declared.routes.Direction.{Direction}
use Rattle.freshness_routes.specs.declared.routes.Direction.TheVariants.{Sends, Receives}
use Rattle.freshness_routes.specs.declared.routes.Route.{Route}
use Rattle.freshness_routes.specs.declared.config.TheConstants.{MOST_ROUTES}
use Rattle.freshness_routes.specs.Config.{IsRoute}
use Rattle.freshness_store.specs.Bound.{HoldsBound}
use Rattle.secoc_node.specs.Cells.{cell_in, route_in}
use Rattle.secoc_node.specs.declared.counters.RouteCounter.{RouteCounter}
use Rattle.secoc_node.specs.declared.counters.RouteCounter.TheVariants as of_route

-- the last freshness in use, and the bound
abbrev pub freshness_in : RouteCounter → ℕ
freshness_in (of_route.Sends tx) = tx.counter
freshness_in (of_route.Receives rx) = rx.counter

abbrev pub bound_in : RouteCounter → ℕ
bound_in (of_route.Sends tx) = tx.bound
bound_in (of_route.Receives rx) = rx.bound

-- the counter of a route whose bound is kept in the cell at this place
abbrev pub counter_towards : Direction → Route → (place freshness bound : ℕ) → RouteCounter
counter_towards Sends route place freshness bound =
    of_route.Sends
    (record { place = place; id = route.id; reserve = route.reserve; counter = freshness; bound = bound })
counter_towards Receives route place freshness bound =
    of_route.Receives
    (record {
      place = place;
      id = route.id;
      reserve = route.reserve;
      window = route.window;
      counter = freshness;
      bound = bound;
    })

abbrev pub counter_of_route : Route → (place freshness bound : ℕ) → RouteCounter
counter_of_route route = counter_towards route.direction route

-- something past the last counter, that nothing asks for
abbrev pub no_counter : RouteCounter
no_counter = of_route.Sends (record { place = 0; id = 0; reserve = 0; counter = 0; bound = 0 })

-- the counter at a place
abbrev pub counter_in : List RouteCounter → ℕ → RouteCounter
counter_in counters k = slice_index_or counters k no_counter

-- the counter at this place is that of this route, whose bound is in the cell of this place after the slots
abbrev pub CountsRoute : Route → ℕ → RouteCounter → Type 0
CountsRoute route k counter = counter ≡ counter_of_route route (14 + k) (freshness_in counter) (bound_in counter)

-- a counter for each route, in their order
pub record CountRoutes (routes : List Route) (counters : List RouteCounter) : Type 0 where
  pub as_many : length counters ≡ length routes
  pub each : (k : ℕ) → k < length routes → CountsRoute (route_in routes k) k (counter_in counters k)

-- ---- counters that begin

-- routes as a configuration has them
pub record AreRoutes (routes : List Route) : Type 0 where
  pub few : length routes ≤ MOST_ROUTES
  pub are : All IsRoute routes

-- the counter is that of this route, and begins at the bound in this cell
pub record BeginsAt (cells : List (List ℕ)) (cell : ℕ) (route : Route) (counter : RouteCounter) : Type 0 where
  pub holds : HoldsBound (cell_in cells cell) route.id route.direction (bound_in counter)
  pub counts : counter ≡ counter_of_route route cell (bound_in counter) (bound_in counter)

-- a counter for each route, in their order, which begins at its bound
pub record BeginRoutes (routes : List Route) (cells : List (List ℕ)) (counters : List RouteCounter) : Type 0 where
  pub as_many : length counters ≡ length routes
  pub each : (k : ℕ) → k < length routes → BeginsAt cells (14 + k) (route_in routes k) (counter_in counters k)
