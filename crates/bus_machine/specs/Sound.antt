-- What holds of each node of a run, whether it is up or down
use Rattle.std.specs.Prelude.{◌≡◌, ℕ, ◌+◌, ◌-◌, ◌^◌, ◌<◌, ◌≤◌, true, None, IfSome, length}
use Rattle.key_slots.specs.Slots.{slot_at, counter_of, IsSlot, IsSlots}
use Rattle.freshness_routes.specs.declared.routes.Direction.TheVariants.{Sends}
use Rattle.freshness_routes.specs.Config.{IsConfig}
use Rattle.bus_machine.specs.Node.{Node, Change, slot_to, bound_to, route_at, bound_at, counter_at}

-- the counter of route k is at most its bound, and the bound less than a reserve above it
pub record InStep (node : Node) (k : ℕ) : Type 0 where
  pub below : counter_at node k ≤ bound_at node k
  pub near : bound_at node k ≤ counter_at node k + (route_at node k).reserve - 1
  pub fits : bound_at node k < 2 ^ 64

-- a change moves forward what is kept: a slot's counter, or a bound, and a sender's bound no further than a reserve
-- above the counter
abbrev pub MovesForward : Node → Change → Type 0
MovesForward node (slot_to target slot) =
    (target < 14) × (counter_of (slot_at node.kept.slots target) < counter_of slot) × IsSlot slot
MovesForward node (bound_to k bound) =
    (k < length node.config.routes)
    × (bound_at node k < bound)
    × (bound < 2 ^ 64)
    × ((route_at node k).direction ≡ Sends → bound ≤ counter_at node k + (route_at node k).reserve)

pub record Sound (node : Node) : Type 0 where
  pub config : IsConfig node.config
  pub slots : IsSlots node.kept.slots
  pub bounds : length node.kept.bounds ≡ length node.config.routes
  pub counters : length node.counters ≡ length node.config.routes
  pub in_step : (k : ℕ) → k < length node.config.routes → InStep node k
  pub settled : node.up ≡ true → node.pending ≡ None
  pub forward : IfSome node.pending (MovesForward node)
