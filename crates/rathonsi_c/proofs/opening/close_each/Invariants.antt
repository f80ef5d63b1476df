use Rattle.std.proofs.Common.{◌≡◌, ◌<◌, ◌≤◌, ℕ, length}
use Rattle.rathonsi_c.specs.Routes.{closed}
use Rattle.rathonsi_c.specs.Opening.{route_of}
use Rattle.rathonsi_c.proofs.opening.close_each.Given as goal

-- the routes before this one are closed, and the others are as they were
abbrev pub invariant-loop-k : goal.invariant-loop-k
invariant-loop-k l = record {
  count : length l.routes ≡ length l.fn.routes;
  closed_before : (i : ℕ) → i < l.k → route_of l.routes i ≡ closed (route_of l.fn.routes i);
  rest : (i : ℕ) → l.k ≤ i → route_of l.routes i ≡ route_of l.fn.routes i;
}
