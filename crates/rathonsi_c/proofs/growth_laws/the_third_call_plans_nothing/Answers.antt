use Rattle.rathonsi_c.proofs.GrowthRoom.{third-plans, nothing-has}
use Rattle.rathonsi_c.proofs.growth_laws.the_third_call_plans_nothing.Goals as goal

pub returns-clause-ends : goal.returns-clause-ends
returns-clause-ends c = λ filled bound x a one b two d three p q r. third-plans filled bound x a one b two d three p q r

pub returns-clause-has : goal.returns-clause-has
returns-clause-has c = λ filled bound x old new p same. nothing-has filled bound x old new p same
