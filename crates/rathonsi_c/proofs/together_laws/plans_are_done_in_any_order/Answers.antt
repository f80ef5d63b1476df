use Rattle.rathonsi_c.proofs.TogetherLaws.{done_each, each_put}
use Rattle.rathonsi_c.proofs.together_laws.plans_are_done_in_any_order.Goals as goal

pub returns-clause-image : goal.returns-clause-image
returns-clause-image c = λ n plans x y cells new p done. done_each n plans x cells new p y done

pub returns-clause-put : goal.returns-clause-put
returns-clause-put c = λ n plans x cells new p m k le lt. each_put n plans x cells new p m k le lt
