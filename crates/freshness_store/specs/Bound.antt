-- The cell of a bound: the 32 bytes in which a store keeps how far the freshness of a route may have gone (own; a route
-- is a Data ID of AUTOSAR SecOC and a direction).
use Rattle.std.specs.Prelude.{◌≡◌, ℕ, ◌<◌, ◌^◌, List, ◌∷◌, ◌++◌, replicate}
use Rattle.basics.specs.Numbers.{bytes_of}
use Rattle.freshness_routes.specs.declared.routes.Direction.{Direction}
use Rattle.freshness_routes.specs.declared.routes.Direction.TheVariants.{Sends, Receives}

abbrev pub direction_number : Direction → ℕ
direction_number Sends = 1
direction_number Receives = 2

-- a byte 2, the direction, the Data ID in two bytes, the bound in eight, and twenty zero bytes
unfoldable pub bound_cell : ℕ → Direction → ℕ → List ℕ
bound_cell id direction bound = 2 ∷ direction_number direction ∷ bytes_of 2 id ++ bytes_of 8 bound ++ replicate 20 0

-- the cell holds this Data ID, direction and bound
pub record HoldsBound (cell : List ℕ) (id : ℕ) (direction : Direction) (bound : ℕ) : Type 0 where
  pub id_fits : id < 2 ^ 16
  pub bound_fits : bound < 2 ^ 64
  pub cell_is : cell ≡ bound_cell id direction bound

-- the cell is no bound's of this Data ID and direction
abbrev pub HoldsNoBound : List ℕ → ℕ → Direction → Type 0
HoldsNoBound cell id direction = (bound : ℕ) → ¬ HoldsBound cell id direction bound
