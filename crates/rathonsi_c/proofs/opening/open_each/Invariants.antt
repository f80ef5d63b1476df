use Rattle.std.proofs.Common.{◌≡◌, ◌<◌, ◌≤◌, ℕ, length}
use Rattle.rathonsi_c.specs.Routes.{Opens}
use Rattle.rathonsi_c.specs.Opening.{route_of}
use Rattle.rathonsi_c.proofs.opening.open_each.Given as goal

-- the routes before this one are opened, and the others are as they were
abbrev pub invariant-loop-k : goal.invariant-loop-k
invariant-loop-k l = record {
  count : length l.routes ≡ length l.fn.routes;
  opened : (i : ℕ) → i < l.k → Opens (route_of l.fn.routes i) l.image (route_of l.routes i);
  rest : (i : ℕ) → l.k ≤ i → route_of l.routes i ≡ route_of l.fn.routes i;
}
