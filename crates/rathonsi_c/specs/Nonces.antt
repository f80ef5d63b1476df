-- Nonces without a source of random numbers: the CMAC, under a slot's key, of a count that never comes twice (own).
use Rattle.std.specs.Prelude.{ℤ, ◌≡◌, ℕ, ◌+◌, List, ◌++◌, codes}
use Rattle.basics.specs.Numbers.{bytes_of}
use Rattle.she_cmac.specs.Cmac.{cmac}
use Rattle.freshness_routes.specs.declared.routes.Direction.TheVariants.{Sends}
use Rattle.rathonsi_c.specs.declared.TheConstants.{BAD_VALUE}
use Rattle.rathonsi_c.specs.declared.route.RathonsiRoute.{RathonsiRoute}
use Rattle.rathonsi_c.specs.Causes.{IfCause}
use Rattle.rathonsi_c.specs.Images.{ImageKey}
use Rattle.rathonsi_c.specs.Routes.{IsFreshnessOnly, RouteAnswers, CounterAnswers, status_alone, is_booted}

-- 80 bytes: a label of 66, the Data ID in two, the name of the unit in four and the count in eight. No PDU, update, answer
-- or boot has an input of this length and label
unfoldable pub nonce_input : ℕ → ℕ → ℕ → List ℕ
nonce_input id asker count =
    codes "RATHONSI NONCE OF THIS UNIT: A COUNT THAT IS DURABLE BEFORE IT IS." ++ bytes_of 2 id ++ bytes_of 4 asker
    ++ bytes_of 8 count

-- what `rathonsi_sync_nonce` answers
abbrev pub NonceAnswers : RathonsiRoute → List ℕ → ℤ → Type 0
NonceAnswers r image status =
    IfCause (¬ IsFreshnessOnly r) BAD_VALUE (RouteAnswers status_alone r Sends image (CounterAnswers r image)) status

-- the nonce is made of the name of the unit that asks, and of the freshness above the counter, under the key of the route's
-- slot
pub record MakesNonce (r : RathonsiRoute) (image : List ℕ) (asker : ℕ) (nonce : List ℕ) : Type 0 where
  pub key : List ℕ
  pub keyed : ImageKey image r.slot (is_booted r) key
  pub nonce_is : nonce ≡ cmac key (nonce_input r.data_id asker (r.counter + 1))
