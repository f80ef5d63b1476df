use Rattle.flash_plan.specs.Standing.{plan_layout}
use Rattle.flash_plan.proofs.DeedSteps.{step_off, broken}
use Rattle.flash_plan.proofs.laws.the_power_may_go.Goals as goal

pub returns-clause-between : goal.returns-clause-between
returns-clause-between c n plan cells scratch at f stands = step_off (plan_layout plan n) plan.best plan.latest cells scratch at f plan.step stands

pub returns-clause-within : goal.returns-clause-within
returns-clause-within c n plan cells scratch at f g outcome stands = broken (plan_layout plan n) plan.best plan.latest cells scratch at f g outcome plan.put plan.step stands
