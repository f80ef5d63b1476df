-- A node's configuration (own; a route is a Data ID of AUTOSAR SecOC with its direction and the slot of its key)
use Rattle.std.specs.Prelude.{◌≡◌, ◌≢◌, ℕ, ◌^◌, ◌<◌, ◌≤◌, List, length, replicate, All, AllPairs}
use Rattle.memory_update.specs.Identifier.{IsUid}
use Rattle.secured_pdu.specs.declared.frame.TheConstants.{WIDEST_WINDOW}
use Rattle.freshness_routes.specs.declared.config.TheConstants.{MOST_RESERVE, MOST_ROUTES}
use Rattle.freshness_routes.specs.declared.routes.Direction.TheVariants.{Sends}
use Rattle.freshness_routes.specs.declared.routes.Route.{Route}

-- the identifier of a node's engine, and its routes
pub record Config : Type 0 where
  pub uid : List ℕ
  pub routes : List Route

-- the numbers of a route are within their bounds
pub record IsRoute (route : Route) : Type 0 where
  pub id_fits : route.id < 2 ^ 16
  pub slot_least : 4 ≤ route.slot
  pub slot_most : route.slot ≤ 13
  pub reserve_least : 1 ≤ route.reserve
  pub reserve_most : route.reserve ≤ MOST_RESERVE
  pub window_least : 1 ≤ route.window
  pub window_most : route.window ≤ WIDEST_WINDOW
  pub window_of_sender : route.direction ≡ Sends → route.window ≡ WIDEST_WINDOW
  pub start_fits : route.start < 2 ^ 64

-- the identifier isn't zero, the routes are at most 256, and no two have one Data ID
pub record IsConfig (config : Config) : Type 0 where
  pub is_uid : IsUid config.uid
  pub not_zero : config.uid ≢ replicate 15 0
  pub few : length config.routes ≤ MOST_ROUTES
  pub are_routes : All IsRoute config.routes
  pub own_ids : AllPairs (λ r s. r.id ≢ s.id) config.routes
