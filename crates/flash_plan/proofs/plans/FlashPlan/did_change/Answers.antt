use Rattle.std.proofs.Common.{length, refl, subst, ◌<◌, sym, ◌∙◌, arith}
use Rattle.flash_plan.specs.declared.plans.PlanStep.{PlanStep}
use Rattle.flash_plan.specs.Plans.{StepFits}
use Rattle.flash_plan.specs.Standing.{plan_layout, StepAt}
use Rattle.flash_plan.proofs.DeedSteps.{erase_done, copy_done}
use Rattle.flash_plan.proofs.FormatSteps.{clear_done, fill_done, erase_formats, copy_formats}
use Rattle.flash_plan.specs.declared.plans.PlanStep.TheVariants.{Copying}
use Rattle.flash_plan.specs.Plans.{step_left}
use Rattle.flash_plan.proofs.LeftSteps.{copy_left, clear_left, fill_left}
use Rattle.flash_plan.proofs.TellingSteps.{programmed_told}
use Rattle.flash_plan.specs.Telling.{StepTold}
use Rattle.flash_plan.proofs.WearSteps.{spent, copy_left_none, fill_left_none, cleared_pays}
use Rattle.flash_plan.specs.Plans.{put_left, put_in}
use Rattle.flash_plan.proofs.plans.FlashPlan.did_change.Goals as goal

pub returns-in-Erasing-clause-steps : goal.returns-in-Erasing-clause-steps
returns-in-Erasing-clause-steps c scratch at f g h =
    erase_done (plan_layout c.args.self.now (length c.args.cells.now)) c.args.self.now.best c.args.self.now.latest c.args.cells.now scratch at f g c.args.self.now.put c.args.self.now.places _ c.args.self.now.step
    c.in-Erasing.bank c.in-Erasing.generation c.in-Erasing.is refl h

pub returns-in-Copying-clause-steps : goal.returns-in-Copying-clause-steps
returns-in-Copying-clause-steps c scratch at f g h =
    copy_done (plan_layout c.args.self.now (length c.args.cells.now)) c.args.self.now.best c.args.self.now.latest c.args.cells.now scratch at f g c.args.self.now.put c.args.self.now.places _ c.args.self.now.step
    c.in-Copying.bank c.in-Copying.generation c.in-Copying.done (length c.args.cells.now) c.in-Copying.is refl c.after_program-self.ensures.is h

pub returns-in-Erasing-clause-formats : goal.returns-in-Erasing-clause-formats
returns-in-Erasing-clause-formats c f g h =
    erase_formats (plan_layout c.args.self.now (length c.args.cells.now)) c.args.cells.now f g c.args.self.now.banks c.args.self.now.put c.args.self.now.places c.args.self.now.step c.args.self.now.step
    c.in-Erasing.bank c.in-Erasing.generation _ c.in-Erasing.is h

pub returns-in-Copying-clause-formats : goal.returns-in-Copying-clause-formats
returns-in-Copying-clause-formats c f g h =
    copy_formats (plan_layout c.args.self.now (length c.args.cells.now)) c.args.cells.now f g c.args.self.now.banks c.args.self.now.put c.args.self.now.places c.args.self.now.step c.args.self.now.step
    c.in-Copying.bank c.in-Copying.generation c.in-Copying.done _ c.in-Copying.is h

pub returns-in-Clearing-clause-steps : goal.returns-in-Clearing-clause-steps
returns-in-Clearing-clause-steps c scratch at f g h =
    absurd (subst (λ (s : PlanStep). StepAt (plan_layout c.args.self.now (length c.args.cells.now)) c.args.self.now.best c.args.self.now.latest c.args.cells.now scratch at f s) c.in-Clearing.is h)

pub returns-in-Clearing-clause-formats : goal.returns-in-Clearing-clause-formats
returns-in-Clearing-clause-formats c f g h =
    clear_done (plan_layout c.args.self.now (length c.args.cells.now)) c.args.cells.now f g c.args.self.now.banks c.args.self.now.put c.args.self.now.places c.args.self.now.step c.after_clearing-self.result
    c.in-Clearing.bank c.in-Clearing.is c.after_clearing-self.ensures.is
    (subst (λ (s : PlanStep). StepFits c.args.self.now.banks c.args.self.now.places (length c.args.cells.now) s c.args.self.now.put) c.in-Clearing.is c.requires.plan.step).0 h

pub returns-in-Filling-clause-steps : goal.returns-in-Filling-clause-steps
returns-in-Filling-clause-steps c scratch at f g h =
    absurd (subst (λ (s : PlanStep). StepAt (plan_layout c.args.self.now (length c.args.cells.now)) c.args.self.now.best c.args.self.now.latest c.args.cells.now scratch at f s) c.in-Filling.is h)

pub returns-in-Filling-clause-formats : goal.returns-in-Filling-clause-formats
returns-in-Filling-clause-formats c f g h =
    fill_done (plan_layout c.args.self.now (length c.args.cells.now)) c.args.cells.now f g c.args.self.now.banks c.args.self.now.put c.args.self.now.places c.args.self.now.step c.after_filling-self.result
    c.in-Filling.done (length c.args.cells.now) c.in-Filling.is refl c.after_filling-self.ensures.is c.requires.plan.two refl h

pub returns-in-Erasing-clause-less : goal.returns-in-Erasing-clause-less
returns-in-Erasing-clause-less c comes = subst (λ (s : PlanStep). step_left c.args.self.now.banks c.args.self.now.places (length c.args.cells.now) c.args.self.now.put (Copying c.in-Erasing.bank c.in-Erasing.generation 0) < step_left c.args.self.now.banks c.args.self.now.places (length c.args.cells.now) c.args.self.now.put s) (sym c.in-Erasing.is) (omega arith)

pub returns-in-Copying-clause-less : goal.returns-in-Copying-clause-less
returns-in-Copying-clause-less c comes = subst (λ (s : PlanStep). step_left c.args.self.now.banks c.args.self.now.places (length c.args.cells.now) c.args.self.now.put c.after_program-self.result < step_left c.args.self.now.banks c.args.self.now.places (length c.args.cells.now) c.args.self.now.put s) (sym c.in-Copying.is) (copy_left c.args.self.now.banks c.args.self.now.places (length c.args.cells.now) (length c.args.cells.now) c.in-Copying.bank c.in-Copying.generation c.in-Copying.done c.args.self.now.put c.after_program-self.result (subst (λ (s : PlanStep). StepFits c.args.self.now.banks c.args.self.now.places (length c.args.cells.now) s c.args.self.now.put) c.in-Copying.is c.requires.plan.step).1.1 refl c.after_program-self.ensures.is)

pub returns-in-Clearing-clause-less : goal.returns-in-Clearing-clause-less
returns-in-Clearing-clause-less c comes = subst (λ (s : PlanStep). step_left c.args.self.now.banks c.args.self.now.places (length c.args.cells.now) c.args.self.now.put c.after_clearing-self.result < step_left c.args.self.now.banks c.args.self.now.places (length c.args.cells.now) c.args.self.now.put s) (sym c.in-Clearing.is) (clear_left c.args.self.now.banks c.args.self.now.places (length c.args.cells.now) c.in-Clearing.bank c.args.self.now.put c.after_clearing-self.result (subst (λ (s : PlanStep). StepFits c.args.self.now.banks c.args.self.now.places (length c.args.cells.now) s c.args.self.now.put) c.in-Clearing.is c.requires.plan.step).0 c.after_clearing-self.ensures.is)

pub returns-in-Filling-clause-less : goal.returns-in-Filling-clause-less
returns-in-Filling-clause-less c comes = subst (λ (s : PlanStep). step_left c.args.self.now.banks c.args.self.now.places (length c.args.cells.now) c.args.self.now.put c.after_filling-self.result < step_left c.args.self.now.banks c.args.self.now.places (length c.args.cells.now) c.args.self.now.put s) (sym c.in-Filling.is) (fill_left c.args.self.now.banks c.args.self.now.places (length c.args.cells.now) (length c.args.cells.now) c.in-Filling.done c.args.self.now.put c.after_filling-self.result (subst (λ (s : PlanStep). StepFits c.args.self.now.banks c.args.self.now.places (length c.args.cells.now) s c.args.self.now.put) c.in-Filling.is c.requires.plan.step).0 refl c.after_filling-self.ensures.is)

pub returns-in-Copying-clause-told : goal.returns-in-Copying-clause-told
returns-in-Copying-clause-told c told h =
    programmed_told told c.args.self.now.banks c.args.self.now.places (length c.args.cells.now) c.in-Copying.bank c.in-Copying.generation c.in-Copying.done c.args.self.now.put c.args.self.now.best c.args.self.now.latest
    c.after_program-self.result c.after_program-self.ensures.is

pub returns-in-Clearing-clause-told : goal.returns-in-Clearing-clause-told
returns-in-Clearing-clause-told c told h =
    absurd (subst (λ (s : PlanStep). StepTold told c.args.self.now.banks c.args.self.now.places c.args.self.now.put c.args.self.now.best c.args.self.now.latest s) c.in-Clearing.is h)

pub returns-in-Filling-clause-told : goal.returns-in-Filling-clause-told
returns-in-Filling-clause-told c told h =
    absurd (subst (λ (s : PlanStep). StepTold told c.args.self.now.banks c.args.self.now.places c.args.self.now.put c.args.self.now.best c.args.self.now.latest s) c.in-Filling.is h)

pub returns-in-Erasing-clause-wear : goal.returns-in-Erasing-clause-wear
returns-in-Erasing-clause-wear c =
    spent c.args.self.now.banks c.args.self.now.places (length c.args.cells.now) (put_left (put_in c.args.self.now)) c.args.self.now.put c.args.cells.now c.args.self.now.step
    (Copying c.in-Erasing.bank c.in-Erasing.generation 0) refl

pub returns-in-Copying-clause-wear : goal.returns-in-Copying-clause-wear
returns-in-Copying-clause-wear c =
    spent c.args.self.now.banks c.args.self.now.places (length c.args.cells.now) (put_left (put_in c.args.self.now)) c.args.self.now.put c.args.cells.now c.args.self.now.step
    c.after_program-self.result
    (copy_left_none c.args.self.now.places (length c.args.cells.now) (length c.args.cells.now) c.args.self.now.banks c.in-Copying.bank c.in-Copying.generation c.in-Copying.done c.after_program-self.result refl
    c.after_program-self.ensures.is)

pub returns-in-Clearing-clause-wear : goal.returns-in-Clearing-clause-wear
returns-in-Clearing-clause-wear c =
    cleared_pays c.args.self.now.banks c.args.self.now.places (length c.args.cells.now) c.args.cells.now c.args.self.now.step c.args.self.now.put
    c.in-Clearing.bank c.after_clearing-self.result c.in-Clearing.is c.after_clearing-self.ensures.is

pub returns-in-Filling-clause-wear : goal.returns-in-Filling-clause-wear
returns-in-Filling-clause-wear c =
    spent c.args.self.now.banks c.args.self.now.places (length c.args.cells.now) (put_left (put_in c.args.self.now)) c.args.self.now.put c.args.cells.now c.args.self.now.step
    c.after_filling-self.result
    (fill_left_none c.args.self.now.places (length c.args.cells.now) (length c.args.cells.now) c.in-Filling.done c.after_filling-self.result c.after_filling-self.ensures.is)

pub returns-in-Erasing-clause-cleared : goal.returns-in-Erasing-clause-cleared
returns-in-Erasing-clause-cleared c bank at made = absurd (let e = sym c.in-Erasing.is ∙ at in cc)

pub returns-in-Copying-clause-cleared : goal.returns-in-Copying-clause-cleared
returns-in-Copying-clause-cleared c bank at made = absurd (let e = sym c.in-Copying.is ∙ at in cc)

pub returns-in-Filling-clause-cleared : goal.returns-in-Filling-clause-cleared
returns-in-Filling-clause-cleared c bank at made = absurd (let e = sym c.in-Filling.is ∙ at in cc)

pub returns-in-Clearing-clause-cleared : goal.returns-in-Clearing-clause-cleared
returns-in-Clearing-clause-cleared c bank at made = c.after_clearing-self.ensures.not_formatted made
