use Rattle.std.proofs.Common.{◌<◌, ℕ}
use Rattle.rathonsi_c.specs.Opening.{route_of, IsApart}
use Rattle.rathonsi_c.proofs.opening.is_apart.Given as goal

-- the route is apart from those before this one
abbrev pub invariant-loop-other : goal.invariant-loop-other
invariant-loop-other l = (k : ℕ) → k < l.other-index → IsApart l.route (route_of l.others k)
