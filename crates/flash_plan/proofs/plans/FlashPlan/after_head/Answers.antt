use Rattle.std.proofs.Common.{Option, length, refl, sym, subst, ◌∙◌, arith, ◌+◌}
use Rattle.std.proofs.lemmas.Option.{none-some}
use Rattle.flash_laws.specs.Lives.{off}
use Rattle.flash_log.specs.Going.{machine}
use Rattle.flash_plan.specs.declared.plans.WaitingPut.{WaitingPut}
use Rattle.flash_plan.specs.declared.plans.PlanStep.TheVariants.{Copied}
use Rattle.flash_plan.specs.Standing.{plan_layout}
use Rattle.flash_plan.proofs.BankSteps.{head_is, head_is_none, head_is_past}
use Rattle.flash_plan.proofs.DeedSteps.{here_reached, reached_plan}
use Rattle.flash_plan.proofs.LeftSteps.{head_left, leave_head, left_as}
use Rattle.flash_plan.proofs.TellingSteps.{head_told}
use Rattle.flash_plan.specs.Telling.{StepTold}
use Rattle.flash_plan.proofs.plans.FlashPlan.after_head.Goals as goal

pub returns-else-is_past-clause-goes : goal.returns-else-is_past-clause-goes
returns-else-is_past-clause-goes c first f g b d =
    here_reached (plan_layout c.args.self.now (length c.args.cells.now)) _ c.args.cells.now c.args.scratch.now first g (Copied c.args.bank c.in-Some.generation 0) refl
    (record {
      first = first;
      is = refl;
      reads = head_is (length c.args.cells.now) c.args.bank first f g c.args.self.now.best c.args.self.now.latest c.note.new.latest c.args.cells.now c.args.scratch.now c.args.answer d b
          (c.note.ensures.here ∙ c.latest_of.ensures) c.note.ensures.others c.in-Some.generation (sym c.generation_of.ensures ∙ c.in-Some.is);
    })

pub returns-in-None-clause-goes : goal.returns-in-None-clause-goes
returns-in-None-clause-goes c first f g b d =
    c.leave_bank.ensures.goes first g
    (head_is_none (length c.args.cells.now) c.args.bank first f g c.args.self.now.best c.args.self.now.latest c.note.new.latest c.args.cells.now c.args.scratch.now c.args.answer d b
    (c.note.ensures.here ∙ c.latest_of.ensures) c.note.ensures.others (sym c.generation_of.ensures ∙ c.in-None.is))

pub returns-else-is_past-clause-less : goal.returns-else-is_past-clause-less
returns-else-is_past-clause-less c = head_left c.args.self.now.banks c.args.bank c.args.self.now.places ((length c.args.cells.now) + 2) c.requires.inside (omega arith)

pub returns-in-None-clause-less : goal.returns-in-None-clause-less
returns-in-None-clause-less c = leave_head c.args.self.now.banks c.args.bank c.args.self.now.places ((length c.args.cells.now) + 2) _ c.requires.inside (omega arith) c.leave_bank.ensures.less

pub returns-else-is_past-clause-told : goal.returns-else-is_past-clause-told
returns-else-is_past-clause-told c told s is =
    head_told told c.args.self.now.places c.args.bank c.args.self.now.best c.args.self.now.latest c.note.new.latest c.args.answer is (c.note.ensures.here ∙ c.latest_of.ensures) c.note.ensures.others s

pub returns-in-None-clause-told : goal.returns-in-None-clause-told
returns-in-None-clause-told c told s is =
    c.leave_bank.ensures.told told
    (head_told told c.args.self.now.places c.args.bank c.args.self.now.best c.args.self.now.latest c.note.new.latest c.args.answer is (c.note.ensures.here ∙ c.latest_of.ensures) c.note.ensures.others s) tt

pub returns-then-is_past-clause-goes : goal.returns-then-is_past-clause-goes
returns-then-is_past-clause-goes c first f g b d =
    reached_plan (plan_layout c.args.self.now (length c.args.cells.now)) _ c.args.cells.now c.args.scratch.now (machine first off) g c.after_bank-self.result refl
    (c.after_bank-self.ensures.goes first g c.args.scratch.now
    (head_is_past (length c.args.cells.now) c.args.bank first f g c.args.self.now.best c.args.self.now.latest c.note.new.latest c.args.cells.now c.args.scratch.now c.args.answer d b
    (c.note.ensures.here ∙ c.latest_of.ensures) c.note.ensures.others c.in-Some.generation (sym c.generation_of.ensures ∙ c.in-Some.is) (sym c.is_past.ensures ∙ c.if-is_past.true)))

pub returns-then-is_past-clause-less : goal.returns-then-is_past-clause-less
returns-then-is_past-clause-less c = leave_head c.args.self.now.banks c.args.bank c.args.self.now.places ((length c.args.cells.now) + 2) _ c.requires.inside (omega arith)
    (left_as c.args.self.now.banks c.args.self.now.banks c.args.self.now.places c.args.self.now.places (length c.args.cells.now) (length c.args.cells.now) c.args.bank c.args.self.now.put c.after_bank-self.result
    refl refl refl c.requires.reading c.after_bank-self.ensures.less)

pub returns-then-is_past-clause-told : goal.returns-then-is_past-clause-told
returns-then-is_past-clause-told c told s is =
    let t = head_told told c.args.self.now.places c.args.bank c.args.self.now.best c.args.self.now.latest c.note.new.latest c.args.answer is (c.note.ensures.here ∙ c.latest_of.ensures) c.note.ensures.others s in
    subst (λ (w : Option WaitingPut). StepTold told c.args.self.now.banks c.args.self.now.places w c.args.self.now.best c.note.new.latest c.after_bank-self.result)
    (sym c.requires.reading) (c.after_bank-self.ensures.told told t)

pub returns-else-is_past-clause-no_head : goal.returns-else-is_past-clause-no_head
returns-else-is_past-clause-no_head c odd none =
    absurd (none-some c.in-Some.generation (sym odd ∙ sym c.generation_of.ensures ∙ c.in-Some.is))

pub returns-then-is_past-clause-no_head : goal.returns-then-is_past-clause-no_head
returns-then-is_past-clause-no_head c odd none =
    absurd (none-some c.in-Some.generation (sym odd ∙ sym c.generation_of.ensures ∙ c.in-Some.is))

pub returns-in-None-clause-no_head : goal.returns-in-None-clause-no_head
returns-in-None-clause-no_head c odd none = c.leave_bank.ensures.no_log refl none
