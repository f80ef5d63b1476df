-- Which pairs of Data IDs a gateway takes (own)
use Rattle.std.specs.Prelude.{◌≢◌, ℕ, ◌<◌, List, length, take, All, slice_index_or}
use Rattle.freshness_routes.specs.declared.routes.Direction.{Direction}
use Rattle.freshness_routes.specs.declared.routes.Direction.TheVariants.{Sends, Receives}
use Rattle.freshness_routes.specs.declared.routes.Route.{Route}
use Rattle.bus_machine.specs.Node.{place_in}

-- one of these routes has this Data ID and direction
abbrev pub IsRouted : List Route → ℕ → Direction → Type 0
IsRouted routes id direction = place_in routes id direction < length routes

-- the first is received and the second is sent by these routes, and no earlier pair has one of them at its place
pub record IsGoodAfter (routes : List Route) (earlier : List (ℕ × ℕ)) (pair : ℕ × ℕ) : Type 0 where
  pub receives : IsRouted routes pair.0 Receives
  pub sends : IsRouted routes pair.1 Sends
  pub is_new : All (λ (p : ℕ × ℕ). (p.0 ≢ pair.0) × (p.1 ≢ pair.1)) earlier

abbrev pub pair_in : List (ℕ × ℕ) → ℕ → ℕ × ℕ
pair_in pairs k = slice_index_or pairs k (0, 0)

abbrev pub IsGoodAt : List Route → List (ℕ × ℕ) → ℕ → Type 0
IsGoodAt routes pairs k = IsGoodAfter routes (take k pairs) (pair_in pairs k)

-- a gateway over a node with these routes takes these pairs
abbrev pub AreGood : List Route → List (ℕ × ℕ) → Type 0
AreGood routes pairs = (k : ℕ) → k < length pairs → IsGoodAt routes pairs k

-- the pair at this place isn't good after those before it, and each of those is
pub record IsLowestBad (routes : List Route) (pairs : List (ℕ × ℕ)) (place : ℕ) : Type 0 where
  pub inside : place < length pairs
  pub before : (k : ℕ) → k < place → IsGoodAt routes pairs k
  pub bad : ¬ IsGoodAt routes pairs place
