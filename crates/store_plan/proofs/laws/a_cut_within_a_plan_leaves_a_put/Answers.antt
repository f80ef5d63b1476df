use Rattle.store_plan.proofs.LeavingLaws.{cut-leaves}
use Rattle.store_plan.proofs.laws.a_cut_within_a_plan_leaves_a_put.Goals as goal

pub returns : goal.returns
returns c = λ plan x y cut. cut-leaves plan x y cut
