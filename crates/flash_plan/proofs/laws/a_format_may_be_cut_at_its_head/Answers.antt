use Rattle.std.proofs.Common.{length, refl, subst}
use Rattle.flash_plan.specs.declared.plans.PlanStep.{PlanStep}
use Rattle.flash_plan.specs.Formatting.{FormatStep}
use Rattle.flash_plan.specs.Standing.{plan_layout}
use Rattle.flash_plan.proofs.CutSteps.{format_cut}
use Rattle.flash_plan.proofs.laws.a_format_may_be_cut_at_its_head.Goals as goal

pub returns : goal.returns
returns c plan cells f g outcome is_plan formats is fails does =
    format_cut (plan_layout plan (length cells)) cells f g outcome is_plan.two refl
    (subst (λ (step : PlanStep). FormatStep (plan_layout plan (length cells)) cells f step) is formats) fails does
