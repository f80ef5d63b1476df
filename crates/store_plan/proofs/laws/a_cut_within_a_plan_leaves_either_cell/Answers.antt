use Rattle.store_plan.proofs.CutLaws.{cut-cell}
use Rattle.store_plan.proofs.laws.a_cut_within_a_plan_leaves_either_cell.Goals as goal

pub returns : goal.returns
returns c = λ plan x y i new p cut. cut-cell plan x y i new p cut
