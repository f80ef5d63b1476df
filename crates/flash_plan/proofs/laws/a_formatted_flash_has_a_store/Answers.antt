use Rattle.flash_plan.specs.Standing.{plan_layout}
use Rattle.flash_plan.proofs.TurnLaws.{has_store}
use Rattle.flash_plan.proofs.laws.a_formatted_flash_has_a_store.Goals as goal

pub returns : goal.returns
returns c n turns first start at plan cells scratch f formatted run stands is =
    has_store (plan_layout plan n) turns first start plan cells scratch at f formatted run stands is
