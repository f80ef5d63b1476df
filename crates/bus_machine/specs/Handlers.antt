-- What a handler of one route finds of a node: its route, counter, bound, slots and boot (own)
use Rattle.std.specs.Prelude.{◌≡◌, ℕ, true, List}
use Rattle.key_slots.specs.declared.memory.Slot.{Slot}
use Rattle.secure_boot.specs.declared.state.BootState.{BootState}
use Rattle.freshness_routes.specs.declared.routes.Direction.{Direction}
use Rattle.freshness_routes.specs.declared.routes.Route.{Route}
use Rattle.bus_machine.specs.Node.{Node, HasRoute, place_of, route_at, bound_at, counter_at}

-- the node is up and has the route in this direction, whose counter and bound are these, and its slots and its boot
-- are these
pub record ServesRoute (node : Node) (route : Route) (direction : Direction) (counter bound : ℕ)
    (slots : List Slot) (boot : BootState) : Type 0 where
  pub is_up : node.up ≡ true
  pub has_route : HasRoute node route.id direction
  pub route_is : route_at node (place_of node route.id direction) ≡ route
  pub counter_is : counter_at node (place_of node route.id direction) ≡ counter
  pub bound_is : bound_at node (place_of node route.id direction) ≡ bound
  pub slots_are : node.kept.slots ≡ slots
  pub boot_is : node.boot ≡ boot
