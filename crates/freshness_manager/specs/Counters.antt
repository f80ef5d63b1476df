-- The counter of one route while its node is up (own; a route is a Data ID of AUTOSAR SecOC and a direction, its
-- counter the greatest freshness in use).
use Rattle.std.specs.Prelude.{ℕ, ◌^◌, ◌<◌, ◌≤◌, List, [], length, slice_index_or}
use Rattle.secured_pdu.specs.Frame.{IsWindow}
use Rattle.freshness_routes.specs.declared.config.TheConstants.{MOST_RESERVE}
use Rattle.freshness_routes.specs.declared.routes.Direction.{Direction}
use Rattle.freshness_store.specs.Bound.{HoldsBound}

-- the last freshness that was sent, and the bound that is kept in the cell at this place
pub record SenderCounter : Type 0 where
  pub place : ℕ
  pub id : ℕ
  pub reserve : ℕ
  pub counter : ℕ
  pub bound : ℕ

-- the last freshness that was accepted, and the bound that is kept in the cell at this place
pub record ReceiverCounter : Type 0 where
  pub place : ℕ
  pub id : ℕ
  pub reserve : ℕ
  pub window : ℕ
  pub counter : ℕ
  pub bound : ℕ

-- the counter is at most the bound, and the reserve is 1 to 128
pub record IsReserved (reserve counter bound : ℕ) : Type 0 where
  pub reserve_least : 1 ≤ reserve
  pub reserve_most : reserve ≤ MOST_RESERVE
  pub counter_most : counter ≤ bound
  pub bound_fits : bound < 2 ^ 64

pub record IsReceiver (window reserve counter bound : ℕ) : Type 0 where
  pub reserved : IsReserved reserve counter bound
  pub is_window : IsWindow window

-- the cell at this place holds this Data ID, direction and bound
pub record KeepsBound (cells : List (List ℕ)) (place id : ℕ) (direction : Direction) (bound : ℕ) : Type 0 where
  pub inside : place < length cells
  pub holds : HoldsBound (slice_index_or cells place []) id direction bound
