use Rattle.std.proofs.Common.{◌≡◌, suc, Option, length, refl, sym, subst, ◌∙◌}
use Rattle.flash_laws.specs.Lives.{off}
use Rattle.flash_log.specs.Going.{machine}
use Rattle.flash_plan.specs.Standing.{plan_layout, BeforeBank}
use Rattle.flash_plan.proofs.DeedSteps.{reached, reached_plan}
use Rattle.flash_plan.proofs.LeftSteps.{left_as}
use Rattle.flash_plan.specs.declared.plans.WaitingPut.{WaitingPut}
use Rattle.flash_plan.specs.Telling.{StartTold, StepTold}
use Rattle.flash_plan.proofs.plans.FlashPlan.leave_bank.Goals as goal

pub returns-clause-goes : goal.returns-clause-goes
returns-clause-goes c first f w =
    let n' = length c.take_log.new.cells in
    let same : n' ≡ length c.args.cells.now = c.take_log.auto.cells in
    let b = c.take_log.ensures.takes first f w in
    reached_plan (plan_layout c.args.self.now (length c.args.cells.now)) _ c.take_log.new.cells c.args.scratch.now (machine first off) f c.after_bank-self.result refl
    (reached c.args.self.now.banks c.take_log.new.self.banks (length c.args.cells.now) n' c.take_log.new.self.best c.take_log.new.self.latest c.take_log.new.cells c.args.scratch.now (machine first off) f
    c.after_bank-self.result c.take_log.ensures.same.banks same
    (c.after_bank-self.ensures.goes first f c.args.scratch.now
    (subst (λ k. BeforeBank k (suc c.args.bank) first f c.take_log.new.self.best c.take_log.new.self.latest c.take_log.new.cells) (sym same) b)))

pub returns-clause-less : goal.returns-clause-less
returns-clause-less c = left_as c.args.self.now.banks c.take_log.new.self.banks c.args.self.now.places c.take_log.new.self.places (length c.args.cells.now) (length c.take_log.new.cells) c.args.bank c.take_log.new.self.put c.after_bank-self.result
    c.take_log.ensures.same.banks c.take_log.ensures.same.places c.take_log.auto.cells (c.take_log.ensures.same.put ∙ c.requires.reading) c.after_bank-self.ensures.less

pub returns-clause-told : goal.returns-clause-told
returns-clause-told c told s l =
    let t = c.take_log.ensures.told told s l in
    let step = c.after_bank-self.ensures.told told (subst (λ z. StartTold told z (suc c.args.bank) c.take_log.new.self.best c.take_log.new.self.latest) (sym c.take_log.ensures.same.places) t) in
    subst (λ (w : Option WaitingPut). StepTold told c.take_log.new.self.banks c.take_log.new.self.places w c.take_log.new.self.best c.take_log.new.self.latest c.after_bank-self.result)
    (sym (c.take_log.ensures.same.put ∙ c.requires.reading)) step

pub returns-clause-no_log : goal.returns-clause-no_log
returns-clause-no_log c nothing none =
    c.after_bank-self.ensures.no_log (c.take_log.ensures.none nothing ∙ none)
