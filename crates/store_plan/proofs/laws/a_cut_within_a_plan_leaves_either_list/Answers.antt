use Rattle.store_plan.proofs.CutLaws.{cut-stands}
use Rattle.store_plan.proofs.laws.a_cut_within_a_plan_leaves_either_list.Goals as goal

pub returns : goal.returns
returns c = λ plan x y cells i new stands below p cut. cut-stands plan x y i new p cut cells stands below
