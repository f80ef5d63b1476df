use Rattle.store_plan.proofs.CutLaws.{cut-others}
use Rattle.store_plan.proofs.laws.a_cut_within_a_plan_leaves_every_other_cell.Goals as goal

pub returns : goal.returns
returns c = λ plan x y i j new p cut ne. cut-others plan x y i new p cut j ne
