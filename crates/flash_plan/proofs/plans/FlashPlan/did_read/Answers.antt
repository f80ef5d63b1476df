use Rattle.std.proofs.Common.{length, ◌<◌, subst, sym, ◌∙◌}
use Rattle.flash_plan.specs.Standing.{plan_layout}
use Rattle.flash_plan.proofs.DeedSteps.{head_answered, copied_answered, puts_answered, free_answered, reads_one}
use Rattle.flash_plan.specs.declared.plans.PlanStep.{PlanStep}
use Rattle.flash_plan.specs.Plans.{step_left, operations_left}
use Rattle.flash_plan.proofs.TellingSteps.{head_tells, copied_tells, puts_tell, free_tells}
use Rattle.flash_plan.proofs.plans.FlashPlan.did_read.Goals as goal

pub returns-in-Heading-clause-steps : goal.returns-in-Heading-clause-steps
returns-in-Heading-clause-steps c at f g h =
    head_answered (plan_layout c.args.self.now (length c.args.cells.now)) c.args.self.now.best c.args.self.now.latest c.args.cells.now c.args.scratch.now c.args.scratch.now c.after_head.new.cells at f g
    c.args.self.now.put c.args.self.now.places c.args.answer c.after_head.new.self c.args.self.now.step c.in-Heading.bank c.in-Heading.is h
    (λ first b d. c.after_head.ensures.goes first f g b d)

pub returns-in-Copied-clause-steps : goal.returns-in-Copied-clause-steps
returns-in-Copied-clause-steps c at f g h =
    copied_answered (plan_layout c.args.self.now (length c.args.cells.now)) c.args.self.now.best c.args.self.now.latest c.args.cells.now c.args.scratch.now c.after_copied.new.scratch c.after_copied.new.cells at f g
    c.args.self.now.put c.args.self.now.places c.args.answer c.after_copied.new.self c.args.self.now.step c.in-Copied.bank c.in-Copied.generation c.in-Copied.done c.in-Copied.is h
    (λ first w d. c.after_copied.ensures.goes first f g w d)

pub returns-in-Puts-clause-steps : goal.returns-in-Puts-clause-steps
returns-in-Puts-clause-steps c at f g h =
    puts_answered (plan_layout c.args.self.now (length c.args.cells.now)) c.args.self.now.best c.args.self.now.latest c.args.cells.now c.args.scratch.now c.after_puts.new.scratch c.after_puts.new.cells at f g
    c.args.self.now.put c.args.self.now.places c.args.answer c.after_puts.new.self c.args.self.now.step c.in-Puts.bank c.in-Puts.generation c.in-Puts.place c.in-Puts.is h
    (λ first w p. c.after_puts.ensures.goes first f g w p.does p.behind)

pub returns-in-Free-clause-steps : goal.returns-in-Free-clause-steps
returns-in-Free-clause-steps c at f g h =
    free_answered (plan_layout c.args.self.now (length c.args.cells.now)) c.args.self.now.best c.args.self.now.latest c.args.cells.now c.args.scratch.now c.args.scratch.now c.after_free.new.cells at f g
    c.args.self.now.put c.args.self.now.places c.args.answer c.after_free.new.self c.args.self.now.step c.in-Free.bank c.in-Free.generation c.in-Free.next c.in-Free.place c.in-Free.is h
    (λ first w p. c.after_free.ensures.goes first f g w p.does p.behind)

pub returns-in_default : goal.returns-in_default
returns-in_default c = absurd (reads_one c.args.self.now.step c.requires.reads c.in_default.not-Heading c.in_default.not-Copied c.in_default.not-Puts c.in_default.not-Free)

pub returns-in-Heading-clause-less : goal.returns-in-Heading-clause-less
returns-in-Heading-clause-less c = subst (λ (s : PlanStep). operations_left (length c.args.cells.now) c.after_head.new.self < step_left c.args.self.now.banks c.args.self.now.places (length c.args.cells.now) c.args.self.now.put s) (sym c.in-Heading.is) c.after_head.ensures.less

pub returns-in-Copied-clause-less : goal.returns-in-Copied-clause-less
returns-in-Copied-clause-less c = subst (λ (s : PlanStep). operations_left (length c.args.cells.now) c.after_copied.new.self < step_left c.args.self.now.banks c.args.self.now.places (length c.args.cells.now) c.args.self.now.put s) (sym c.in-Copied.is) c.after_copied.ensures.less

pub returns-in-Puts-clause-less : goal.returns-in-Puts-clause-less
returns-in-Puts-clause-less c = subst (λ (s : PlanStep). operations_left (length c.args.cells.now) c.after_puts.new.self < step_left c.args.self.now.banks c.args.self.now.places (length c.args.cells.now) c.args.self.now.put s) (sym c.in-Puts.is) c.after_puts.ensures.less

pub returns-in-Free-clause-less : goal.returns-in-Free-clause-less
returns-in-Free-clause-less c = subst (λ (s : PlanStep). operations_left (length c.args.cells.now) c.after_free.new.self < step_left c.args.self.now.banks c.args.self.now.places (length c.args.cells.now) c.args.self.now.put s) (sym c.in-Free.is) c.after_free.ensures.less

pub returns-in-Heading-clause-told : goal.returns-in-Heading-clause-told
returns-in-Heading-clause-told c told h =
    head_tells told c.args.self.now.banks c.args.self.now.places c.args.self.now.put c.args.self.now.best c.args.self.now.latest c.args.cells.now c.args.answer c.after_head.new.self c.args.self.now.step h
    c.in-Heading.bank c.in-Heading.is (λ s is. c.after_head.ensures.told told s is)

pub returns-in-Copied-clause-told : goal.returns-in-Copied-clause-told
returns-in-Copied-clause-told c told h =
    copied_tells told c.args.self.now.banks c.args.self.now.places c.args.self.now.put c.args.self.now.best c.args.self.now.latest c.args.cells.now c.args.answer c.after_copied.new.self c.args.self.now.step h
    c.in-Copied.bank c.in-Copied.generation c.in-Copied.done c.in-Copied.is (λ s. c.after_copied.ensures.told told s)

pub returns-in-Puts-clause-told : goal.returns-in-Puts-clause-told
returns-in-Puts-clause-told c told h =
    puts_tell told c.args.self.now.banks c.args.self.now.places c.args.self.now.put c.args.self.now.best c.args.self.now.latest c.args.cells.now c.args.answer c.after_puts.new.self c.args.self.now.step h
    c.in-Puts.bank c.in-Puts.generation c.in-Puts.place c.in-Puts.is (λ s is. c.after_puts.ensures.told told s is)

pub returns-in-Free-clause-told : goal.returns-in-Free-clause-told
returns-in-Free-clause-told c told h =
    free_tells told c.args.self.now.banks c.args.self.now.places c.args.self.now.put c.args.self.now.best c.args.self.now.latest c.args.cells.now c.args.answer c.after_free.new.self c.args.self.now.step h
    c.in-Free.bank c.in-Free.generation c.in-Free.next c.in-Free.place c.in-Free.is (λ s below is. c.after_free.ensures.told told s below is)

pub returns-in-Copied-clause-no_head : goal.returns-in-Copied-clause-no_head
returns-in-Copied-clause-no_head c bank at odd none = absurd (let e = sym c.in-Copied.is ∙ at in cc)

pub returns-in-Puts-clause-no_head : goal.returns-in-Puts-clause-no_head
returns-in-Puts-clause-no_head c bank at odd none = absurd (let e = sym c.in-Puts.is ∙ at in cc)

pub returns-in-Free-clause-no_head : goal.returns-in-Free-clause-no_head
returns-in-Free-clause-no_head c bank at odd none = absurd (let e = sym c.in-Free.is ∙ at in cc)

pub returns-in-Heading-clause-no_head : goal.returns-in-Heading-clause-no_head
returns-in-Heading-clause-no_head c bank at odd none = c.after_head.ensures.no_head odd none
