use Rattle.flash_plan.specs.Standing.{plan_layout}
use Rattle.flash_plan.proofs.TurnLaws.{turns_formatted, turns_later, idle_ready}
use Rattle.flash_plan.proofs.laws.an_idle_plan_has_its_cells.Goals as goal

pub returns-clause-formatted : goal.returns-clause-formatted
returns-clause-formatted c n turns first start at plan cells scratch f formatted run stands idle =
    turns_formatted (plan_layout plan n) turns first cells start at formatted run (idle_ready (plan_layout plan n) plan cells scratch at f idle.step stands)

pub returns-clause-later : goal.returns-clause-later
returns-clause-later c n earlier turns first olds start a at plan cells scratch f formatted before is run stands idle =
    turns_later (plan_layout plan n) earlier turns first olds cells start a at formatted before is run (idle_ready (plan_layout plan n) plan cells scratch at f idle.step stands)
