-- What a node keeps through a power cut, and what it knows while it is up (own; its slots are those of the SHE
-- specification, its counters the freshness of AUTOSAR SecOC)
use Rattle.std.specs.Prelude.{ℕ, suc, ◌<◌, Bool, true, false, ◌&&◌, ◌==◌, if◌then◌else◌, Option, None, Some, List, []}
use Rattle.std.specs.Prelude.{◌∷◌, length, map, replicate, set, slice_index, slice_index_or}
use Rattle.key_slots.specs.declared.memory.Slot.{Slot}
use Rattle.key_slots.specs.declared.memory.Slot.TheVariants.{Empty}
use Rattle.key_slots.specs.Slots.{slot_at}
use Rattle.memory_update.specs.Loading.{key_in}
use Rattle.secure_boot.specs.declared.state.BootState.{BootState}
use Rattle.secure_boot.specs.declared.state.BootState.TheVariants.{Undecided}
use Rattle.secure_boot.specs.Booting.{decided_as}
use Rattle.freshness_routes.specs.declared.routes.Direction.{Direction}
use Rattle.freshness_routes.specs.declared.routes.Direction.TheVariants.{Sends, Receives}
use Rattle.freshness_routes.specs.declared.routes.Route.{Route}
use Rattle.freshness_routes.specs.Config.{Config}

-- what outlasts a power cut: fourteen slots, and a bound for each route
pub record Kept : Type 0 where
  pub slots : List Slot
  pub bounds : List ℕ

-- a change of what is kept: a slot's new content, or a route's new bound; it is made whole or not at all
pub data Change : Type 0 where
  slot_to : (target : ℕ) (slot : Slot) → Change
  bound_to : (route bound : ℕ) → Change

abbrev pub changed : Change → Kept → Kept
changed (slot_to target slot) kept = record kept { slots = set kept.slots target slot }
changed (bound_to route bound) kept = record kept { bounds = set kept.bounds route bound }

-- the same with a change that may be due or not
abbrev pub changed_by : Option Change → Kept → Kept
changed_by None kept = kept
changed_by (Some change) kept = changed change kept

-- a node: its configuration, what it keeps, the counter of each route, whether it is up, and the change that a failed
-- call left pending
pub record Node : Type 0 where
  pub config : Config
  pub kept : Kept
  pub boot : BootState
  pub counters : List ℕ
  pub up : Bool
  pub pending : Option Change

-- ---- the routes of a node

abbrev pub same_direction : Direction → Direction → Bool
same_direction Sends Sends = true
same_direction Receives Receives = true
same_direction _ _ = false

-- the place of the route with this Data ID and direction; the number of routes if there is none
abbrev pub place_in : List Route → ℕ → Direction → ℕ
place_in [] id direction = 0
place_in (route ∷ routes) id direction =
    if (route.id == id) && same_direction route.direction direction then 0 else suc (place_in routes id direction)

abbrev pub place_of : Node → ℕ → Direction → ℕ
place_of node = place_in node.config.routes

abbrev pub HasRoute : Node → ℕ → Direction → Type 0
HasRoute node id direction = place_of node id direction < length node.config.routes

-- the route, the bound and the counter at a place, and the key in the route's slot; past the last route something that
-- nothing asks for
abbrev pub no_route : Route
no_route = record { id = 0; direction = Sends; slot = 0; reserve = 0; window = 0; start = 0 }

abbrev pub route_at : Node → ℕ → Route
route_at node k = slice_index_or node.config.routes k no_route

abbrev pub bound_at : Node → ℕ → ℕ
bound_at node k = slice_index node.kept.bounds k

abbrev pub counter_at : Node → ℕ → ℕ
counter_at node k = slice_index node.counters k

abbrev pub route_key : Node → ℕ → List ℕ
route_key node k = key_in (slot_at node.kept.slots (route_at node k).slot)

-- ---- the node after something was done

-- a power-up: each counter is its bound, no boot was made, and nothing is pending
abbrev pub powered : Config → Kept → Node
powered config kept = record {
  config = config;
  kept = kept;
  boot = Undecided;
  counters = kept.bounds;
  up = true;
  pending = None;
}

-- at first each slot is empty, and each bound is its route's start
abbrev pub first_node : Config → Node
first_node config =
    powered config (record { slots = replicate 14 Empty; bounds = map (λ route. route.start) config.routes })

-- the counter of route k became v, and the change, if one was due, was made before
abbrev pub with_counter : Option Change → ℕ → ℕ → Node → Node
with_counter change k v node = record node { kept = changed_by change node.kept; counters = set node.counters k v }

-- a slot was updated
abbrev pub with_slot : ℕ → Slot → Node → Node
with_slot target slot node = record node { kept = changed (slot_to target slot) node.kept }

-- a boot was decided
abbrev pub booted : Bool → Node → Node
booted good node = record node { boot = decided_as good }

-- this change was to be made, and the disk failed
abbrev pub failed : Change → Node → Node
failed change node = record node { up = false; pending = Some change }

-- the disk failed while the node powered up
abbrev pub refused_up : Node → Node
refused_up node = record node { up = false }
