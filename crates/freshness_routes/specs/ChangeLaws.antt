-- Laws of the changes, as statements
use Rattle.std.specs.Prelude.{◌≡◌, ℕ, ◌+◌, ◌-◌, ◌^◌, ◌<◌, ◌≤◌, min, Some, None}
use Rattle.freshness_routes.specs.Changes.{last_freshness, bound_due}

-- a new bound is above the old one, below 2^64, at least the freshness in use, and at most a reserve ahead of what was
pub record Forward (bound in_use most new : ℕ) : Type 0 where
  pub above : bound < new
  pub fits : new < 2 ^ 64
  pub covers : in_use ≤ new
  pub near : new ≤ most

-- for a sender the freshness in use is the one above its counter
abbrev pub BoundsMoveForward : Type 0
BoundsMoveForward = (bound reserve v new : ℕ) → 1 ≤ reserve → v < 2 ^ 64
    → bound_due bound reserve v ≡ Some new → Forward bound v (v + reserve - 1) new

-- a sender that has used up its bound moves it by a whole reserve
abbrev pub UsedBoundMoves : Type 0
UsedBoundMoves = (bound reserve : ℕ) → 1 ≤ reserve
    → bound_due bound reserve (bound + 1) ≡ Some (min (bound + reserve) last_freshness)

-- worked values: a bound that suffices, one that doesn't, and the cap
pub record WorkedChanges : Type 0 where
  pub sends : bound_due 0xe93d7e1173931729 4 0xe93d7e117393172a ≡ Some 0xe93d7e117393172d
  pub suffices : bound_due 0xe93d7e117393172d 4 0xe93d7e117393172d ≡ None
  pub goes_on : bound_due 0xe93d7e117393172d 4 0xe93d7e117393172e ≡ Some 0xe93d7e1173931731
  pub is_capped : bound_due 0xfffffffffffffffe 128 0xffffffffffffffff ≡ Some 0xffffffffffffffff
  pub accepts : bound_due 100 8 105 ≡ Some 112
  pub accepted : bound_due 112 8 112 ≡ None
  pub accepts_on : bound_due 112 8 113 ≡ Some 120
  pub accepts_last : bound_due 100 8 0xffffffffffffffff ≡ Some 0xffffffffffffffff
