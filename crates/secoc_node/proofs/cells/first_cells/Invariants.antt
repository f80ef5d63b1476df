-- the cells so far are those of the list, and those after all of it are as before
use Rattle.std.proofs.Common.{◌≡◌, ℕ, [], ◌+◌, ◌<◌, ◌≤◌, length, get_or}
use Rattle.bus_machine.specs.Node.{first_node}
use Rattle.secoc_node.specs.Cells.{CellsOf}
use Rattle.secoc_node.proofs.cells.first_cells.Given as goal

abbrev pub invariant-loop-place : goal.invariant-loop-place
invariant-loop-place l = record {
  size : length l.out ≡ 270;
  so_far : (k : ℕ) → k < 14 + l.place → get_or l.out k [] ≡ get_or (CellsOf l.fn.config (first_node l.fn.config).kept) k [];
  rest : (k : ℕ) → 14 + length l.routes ≤ k → get_or l.out k [] ≡ get_or l.fn.out k [];
}
