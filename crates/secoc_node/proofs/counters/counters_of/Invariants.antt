-- the counters so far begin at their bounds
use Rattle.std.proofs.Common.{◌≡◌, ℕ, ◌+◌, ◌<◌, length}
use Rattle.secoc_node.specs.Cells.{route_in}
use Rattle.secoc_node.specs.Counters.{BeginsAt, counter_in}
use Rattle.secoc_node.proofs.counters.counters_of.Given as goal

abbrev pub invariant-loop-place : goal.invariant-loop-place
invariant-loop-place g l = record {
  as_many : length l.counters.items ≡ l.place;
  so_far : (k : ℕ) → k < l.place → BeginsAt (g.C.Cells.state l.cells).cells (14 + k) (route_in l.routes k) (counter_in l.counters.items k);
}
