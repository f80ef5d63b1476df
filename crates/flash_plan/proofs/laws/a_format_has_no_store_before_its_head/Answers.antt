use Rattle.std.proofs.Common.{length, subst}
use Rattle.flash_plan.specs.declared.plans.PlanStep.{PlanStep}
use Rattle.flash_plan.specs.Formatting.{FormatStep}
use Rattle.flash_plan.specs.Standing.{plan_layout}
use Rattle.flash_plan.proofs.CutSteps.{filled_none, cut_none}
use Rattle.flash_plan.proofs.laws.a_format_has_no_store_before_its_head.Goals as goal

pub returns-clause-between : goal.returns-clause-between
returns-clause-between c plan cells done f after read formats is looks found =
    filled_none (plan_layout plan (length cells)) done cells f after read
    (subst (λ (step : PlanStep). FormatStep (plan_layout plan (length cells)) cells f step) is formats) looks found

pub returns-clause-within : goal.returns-clause-within
returns-clause-within c plan cells done line f g after outcome read formats is fails does looks found =
    cut_none (plan_layout plan (length cells)) done cells line f g after outcome read
    (subst (λ (step : PlanStep). FormatStep (plan_layout plan (length cells)) cells f step) is formats) fails does looks found
