use Rattle.store_plan.proofs.LeavingLaws.{images-unchanged, images-put}
use Rattle.store_plan.proofs.laws.images_made_anew_leave_a_put.Goals as goal

pub returns-clause-before : goal.returns-clause-before
returns-clause-before c = λ plan x y cells a b. images-unchanged plan x y cells a b

pub returns-clause-after : goal.returns-clause-after
returns-clause-after c = λ plan x y cells i new a p b. images-put plan x y cells i new a p b
