-- the cells so far hold bounds
use Rattle.std.proofs.Common.{ℕ, ◌<◌}
use Rattle.secoc_node.specs.Cells.{HoldsSomeBound}
use Rattle.secoc_node.proofs.counters.check_bounds.Given as goal

abbrev pub invariant-loop-place : goal.invariant-loop-place
invariant-loop-place g l = (k : ℕ) → k < l.place → HoldsSomeBound l.routes (g.C.Cells.state l.cells).cells k
