use Rattle.store_plan.proofs.LeavingLaws.{image-put}
use Rattle.store_plan.proofs.laws.a_done_put_keeps_an_image.Goals as goal

pub returns : goal.returns
returns c = λ plan x cells i new a p. image-put plan x cells i new a p
