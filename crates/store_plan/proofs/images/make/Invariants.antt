use Rattle.std.proofs.Common.{◌≡◌, length}
use Rattle.store_plan.proofs.MakingLaws.{MadeSoFar}
use Rattle.store_plan.proofs.images.make.Given as goal

-- the header and the cells before this one are made
abbrev pub invariant-loop-cell : goal.invariant-loop-cell
invariant-loop-cell l = record {
  so_far : MadeSoFar l.cells l.cell l.fn.image l.image;
  size : length l.image ≡ length l.fn.image;
}
