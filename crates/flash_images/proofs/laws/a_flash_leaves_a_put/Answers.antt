use Rattle.flash_plan.specs.Standing.{plan_layout}
use Rattle.flash_plan.specs.Turns.{puts_in}
use Rattle.flash_plan.proofs.CallerLemmas.{turns_later, idle_ready}
use Rattle.flash_images.proofs.LeavingLaws.{flash-leaves}
use Rattle.flash_images.proofs.laws.a_flash_leaves_a_put.Goals as goal

pub returns-clause-cells : goal.returns-clause-cells
returns-clause-cells c = λ plan x y olds cells deeds a b only may. flash-leaves plan x y olds cells a b deeds only may

pub returns-clause-turns : goal.returns-clause-turns
returns-clause-turns c = λ n earlier turns first olds cells scratch start a at flash f plan x y formatted before is t h idle old new only.
    flash-leaves plan x y olds cells old new (puts_in turns) only
    (turns_later (plan_layout flash n) earlier turns first olds cells start a at formatted before is t
    (idle_ready (plan_layout flash n) flash cells scratch at f idle.step h))
