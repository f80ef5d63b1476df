use Rattle.std.proofs.Common.{◌≡◌, true, length, refl, sym, subst, IfSome}
use Rattle.flash_plan.specs.declared.operations.FlashOutcome.{FlashOutcome}
use Rattle.flash_plan.specs.declared.operations.FlashOutcome.TheVariants.{Answered, Done, Failed}
use Rattle.flash_plan.specs.Performing.{Performs}
use Rattle.flash_plan.specs.declared.plans.PlanStep.{PlanStep}
use Rattle.flash_plan.specs.Plans.{operation_of, put_in, ReadsAt, ChangesAt, ReadsNoHead}
use Rattle.flash_plan.specs.Standing.{plan_layout, PlanMovesOn}
use Rattle.flash_plan.proofs.DeedSteps.{any_failed, plan_fails, plan_failed, not_read, not_written}
use Rattle.flash_plan.specs.Formatting.{FormatsAt}
use Rattle.flash_plan.proofs.FormatSteps.{format_reads, plan_format_fails}
use Rattle.flash_plan.proofs.LeftSteps.{fail_less}
use Rattle.flash_plan.proofs.TellingSteps.{failed_told, if_comes}
use Rattle.flash_plan.specs.Telling.{AnswersSo, IsTold}
use Rattle.flash_plan.proofs.WearSteps.{failed_credit, failed_skips, failed_nothing, failed_clears, failed_other}
use Rattle.flash_plan.proofs.plans.FlashPlan.did.Goals as goal

pub returns-else-reads-clause-steps : goal.returns-else-reads-clause-steps
returns-else-reads-clause-steps c at f g h =
    subst (λ (o : FlashOutcome). IfSome (operation_of c.args.self.now c.args.cells.now) (λ it. Performs c.args.self.now.places it o f g
    → PlanMovesOn (plan_layout c.args.self.now (length c.args.cells.now)) (put_in c.args.self.now) o c.fail.new.self c.args.cells.now c.args.scratch.now at g)) (sym c.in-Answered.is)
    (plan_fails (plan_layout c.args.self.now (length c.args.cells.now)) c.args.self.now c.fail.new.self c.args.cells.now c.args.scratch.now at f g (Answered c.in-Answered.answer) c.args.self.now.places c.fail.ensures.fails
    (not_read c.args.self.now.banks c.args.self.now.put c.args.cells.now c.in-Answered.answer c.args.self.now.step (λ r. let e : c.reads.result ≡ true = c.reads.ensures.1 r in absurd (cc))) h)

pub returns-else-writes-clause-steps : goal.returns-else-writes-clause-steps
returns-else-writes-clause-steps c at f g h =
    subst (λ (o : FlashOutcome). IfSome (operation_of c.args.self.now c.args.cells.now) (λ it. Performs c.args.self.now.places it o f g
    → PlanMovesOn (plan_layout c.args.self.now (length c.args.cells.now)) (put_in c.args.self.now) o c.fail-else-writes.new.self c.args.cells.now c.args.scratch.now at g)) (sym c.in-Done.is)
    (plan_fails (plan_layout c.args.self.now (length c.args.cells.now)) c.args.self.now c.fail-else-writes.new.self c.args.cells.now c.args.scratch.now at f g Done c.args.self.now.places c.fail-else-writes.ensures.fails
    (not_written c.args.self.now.banks c.args.self.now.put c.args.cells.now c.args.self.now.step (λ r. let e : c.writes.result ≡ true = c.writes.ensures.1 r in absurd (cc))) h)

pub returns-in-Failed-clause-steps : goal.returns-in-Failed-clause-steps
returns-in-Failed-clause-steps c at f g h =
    subst (λ (o : FlashOutcome). IfSome (operation_of c.args.self.now c.args.cells.now) (λ it. Performs c.args.self.now.places it o f g
    → PlanMovesOn (plan_layout c.args.self.now (length c.args.cells.now)) (put_in c.args.self.now) o c.fail-in-Failed.new.self c.args.cells.now c.args.scratch.now at g)) (sym c.in-Failed.is)
    (plan_failed (plan_layout c.args.self.now (length c.args.cells.now)) c.args.self.now c.fail-in-Failed.new.self c.args.cells.now c.args.scratch.now at f g c.args.self.now.places c.fail-in-Failed.ensures.fails h)

pub returns-then-reads-clause-formats : goal.returns-then-reads-clause-formats
returns-then-reads-clause-formats c f g h = absurd (format_reads (plan_layout c.args.self.now (length c.args.cells.now)) c.args.cells.now f c.args.self.now.step (c.reads.ensures.0 c.if-reads.true) h)

pub returns-else-reads-clause-formats : goal.returns-else-reads-clause-formats
returns-else-reads-clause-formats c f g h =
    subst (λ (o : FlashOutcome). IfSome (operation_of c.args.self.now c.args.cells.now) (λ it. Performs c.args.self.now.places it o f g → FormatsAt c.fail.new.self c.args.cells.now g)) (sym c.in-Answered.is)
    (plan_format_fails c.args.self.now c.fail.new.self c.args.cells.now c.args.cells.now f g (Answered c.in-Answered.answer) c.args.self.now.places refl c.fail.ensures.fails
    (not_read c.args.self.now.banks c.args.self.now.put c.args.cells.now c.in-Answered.answer c.args.self.now.step (λ r. let e : c.reads.result ≡ true = c.reads.ensures.1 r in absurd (cc))) h)

pub returns-then-writes-clause-formats : goal.returns-then-writes-clause-formats
returns-then-writes-clause-formats c f g h =
    subst (λ (o : FlashOutcome). IfSome (operation_of c.args.self.now c.args.cells.now) (λ it. Performs c.args.self.now.places it o f g → FormatsAt c.did_change.new.self c.did_change.new.cells g)) (sym c.in-Done.is) (c.did_change.ensures.formats f g h)

pub returns-else-writes-clause-formats : goal.returns-else-writes-clause-formats
returns-else-writes-clause-formats c f g h =
    subst (λ (o : FlashOutcome). IfSome (operation_of c.args.self.now c.args.cells.now) (λ it. Performs c.args.self.now.places it o f g → FormatsAt c.fail-else-writes.new.self c.args.cells.now g)) (sym c.in-Done.is)
    (plan_format_fails c.args.self.now c.fail-else-writes.new.self c.args.cells.now c.args.cells.now f g Done c.args.self.now.places refl c.fail-else-writes.ensures.fails
    (not_written c.args.self.now.banks c.args.self.now.put c.args.cells.now c.args.self.now.step (λ r. let e : c.writes.result ≡ true = c.writes.ensures.1 r in absurd (cc))) h)

pub returns-in-Failed-clause-formats : goal.returns-in-Failed-clause-formats
returns-in-Failed-clause-formats c f g h =
    subst (λ (o : FlashOutcome). IfSome (operation_of c.args.self.now c.args.cells.now) (λ it. Performs c.args.self.now.places it o f g → FormatsAt c.fail-in-Failed.new.self c.args.cells.now g)) (sym c.in-Failed.is)
    (plan_format_fails c.args.self.now c.fail-in-Failed.new.self c.args.cells.now c.args.cells.now f g Failed c.args.self.now.places refl c.fail-in-Failed.ensures.fails
    (any_failed (operation_of c.args.self.now c.args.cells.now)) h)

pub returns-else-reads-clause-less : goal.returns-else-reads-clause-less
returns-else-reads-clause-less c comes = fail_less (length c.args.cells.now) c.args.self.now c.fail.new.self c.args.cells.now c.fail.ensures.fails c.requires.plan.step comes

pub returns-else-writes-clause-less : goal.returns-else-writes-clause-less
returns-else-writes-clause-less c comes = fail_less (length c.args.cells.now) c.args.self.now c.fail-else-writes.new.self c.args.cells.now c.fail-else-writes.ensures.fails c.requires.plan.step comes

pub returns-in-Failed-clause-less : goal.returns-in-Failed-clause-less
returns-in-Failed-clause-less c comes = fail_less (length c.args.cells.now) c.args.self.now c.fail-in-Failed.new.self c.args.cells.now c.fail-in-Failed.ensures.fails c.requires.plan.step comes

pub returns-then-reads-clause-told : goal.returns-then-reads-clause-told
returns-then-reads-clause-told c told h =
    subst (λ (o : FlashOutcome). IfSome (operation_of c.args.self.now c.args.cells.now) (λ it. AnswersSo told it o → IsTold told c.did_read.new.self)) (sym c.in-Answered.is) (c.did_read.ensures.told told h)

pub returns-else-reads-clause-told : goal.returns-else-reads-clause-told
returns-else-reads-clause-told c told h =
    if_comes (IsTold told c.fail.new.self) told (operation_of c.args.self.now c.args.cells.now) c.args.outcome (failed_told told c.args.self.now c.fail.new.self c.fail.ensures.fails h)

pub returns-then-writes-clause-told : goal.returns-then-writes-clause-told
returns-then-writes-clause-told c told h =
    if_comes (IsTold told c.did_change.new.self) told (operation_of c.args.self.now c.args.cells.now) c.args.outcome (c.did_change.ensures.told told h)

pub returns-else-writes-clause-told : goal.returns-else-writes-clause-told
returns-else-writes-clause-told c told h =
    if_comes (IsTold told c.fail-else-writes.new.self) told (operation_of c.args.self.now c.args.cells.now) c.args.outcome (failed_told told c.args.self.now c.fail-else-writes.new.self c.fail-else-writes.ensures.fails h)

pub returns-in-Failed-clause-told : goal.returns-in-Failed-clause-told
returns-in-Failed-clause-told c told h =
    if_comes (IsTold told c.fail-in-Failed.new.self) told (operation_of c.args.self.now c.args.cells.now) c.args.outcome (failed_told told c.args.self.now c.fail-in-Failed.new.self c.fail-in-Failed.ensures.fails h)

pub returns-then-reads-clause-wear : goal.returns-then-reads-clause-wear
returns-then-reads-clause-wear c quiet = absurd (quiet (c.reads.ensures.0 c.if-reads.true))

pub returns-else-reads-clause-wear : goal.returns-else-reads-clause-wear
returns-else-reads-clause-wear c quiet = failed_credit (length c.args.cells.now) c.args.self.now c.fail.new.self c.args.cells.now c.fail.ensures.fails

pub returns-then-writes-clause-wear : goal.returns-then-writes-clause-wear
returns-then-writes-clause-wear c quiet = c.did_change.ensures.wear

pub returns-else-writes-clause-wear : goal.returns-else-writes-clause-wear
returns-else-writes-clause-wear c quiet = failed_credit (length c.args.cells.now) c.args.self.now c.fail-else-writes.new.self c.args.cells.now c.fail-else-writes.ensures.fails

pub returns-in-Failed-clause-wear : goal.returns-in-Failed-clause-wear
returns-in-Failed-clause-wear c quiet = failed_credit (length c.args.cells.now) c.args.self.now c.fail-in-Failed.new.self c.args.cells.now c.fail-in-Failed.ensures.fails

pub returns-else-reads-clause-skips : goal.returns-else-reads-clause-skips
returns-else-reads-clause-skips c h = failed_skips c.args.self.now c.fail.new.self c.fail.ensures.fails h

pub returns-else-writes-clause-skips : goal.returns-else-writes-clause-skips
returns-else-writes-clause-skips c h = failed_skips c.args.self.now c.fail-else-writes.new.self c.fail-else-writes.ensures.fails h

pub returns-in-Failed-clause-skips : goal.returns-in-Failed-clause-skips
returns-in-Failed-clause-skips c h = failed_skips c.args.self.now c.fail-in-Failed.new.self c.fail-in-Failed.ensures.fails h

pub returns-then-reads-clause-no_head : goal.returns-then-reads-clause-no_head
returns-then-reads-clause-no_head c bank at odd none =
    c.did_read.ensures.no_head bank at (subst (λ (o : FlashOutcome). ReadsNoHead o) c.in-Answered.is odd) none

pub returns-else-reads-clause-no_head : goal.returns-else-reads-clause-no_head
returns-else-reads-clause-no_head c bank at odd none = failed_nothing c.args.self.now c.fail.new.self bank c.fail.ensures.fails at none

pub returns-then-writes-clause-no_head : goal.returns-then-writes-clause-no_head
returns-then-writes-clause-no_head c bank at odd none =
    absurd (subst (λ (s : PlanStep). ChangesAt s) at (c.writes.ensures.0 c.if-writes.true))

pub returns-else-writes-clause-no_head : goal.returns-else-writes-clause-no_head
returns-else-writes-clause-no_head c bank at odd none = failed_nothing c.args.self.now c.fail-else-writes.new.self bank c.fail-else-writes.ensures.fails at none

pub returns-in-Failed-clause-no_head : goal.returns-in-Failed-clause-no_head
returns-in-Failed-clause-no_head c bank at odd none = failed_nothing c.args.self.now c.fail-in-Failed.new.self bank c.fail-in-Failed.ensures.fails at none

pub returns-then-reads-clause-cleared : goal.returns-then-reads-clause-cleared
returns-then-reads-clause-cleared c bank at made =
    absurd (subst (λ (s : PlanStep). ReadsAt s) at (c.reads.ensures.0 c.if-reads.true))

pub returns-else-reads-clause-cleared : goal.returns-else-reads-clause-cleared
returns-else-reads-clause-cleared c bank at made = failed_clears c.args.self.now c.fail.new.self bank c.fail.ensures.fails at made

pub returns-then-writes-clause-cleared : goal.returns-then-writes-clause-cleared
returns-then-writes-clause-cleared c bank at made = c.did_change.ensures.cleared bank at made

pub returns-else-writes-clause-cleared : goal.returns-else-writes-clause-cleared
returns-else-writes-clause-cleared c bank at made = failed_clears c.args.self.now c.fail-else-writes.new.self bank c.fail-else-writes.ensures.fails at made

pub returns-in-Failed-clause-cleared : goal.returns-in-Failed-clause-cleared
returns-in-Failed-clause-cleared c bank at made = failed_clears c.args.self.now c.fail-in-Failed.new.self bank c.fail-in-Failed.ensures.fails at made

pub returns-else-reads-clause-other : goal.returns-else-reads-clause-other
returns-else-reads-clause-other c is = failed_other c.args.self.now c.fail.new.self c.fail.ensures.fails is

pub returns-else-writes-clause-other : goal.returns-else-writes-clause-other
returns-else-writes-clause-other c is = failed_other c.args.self.now c.fail-else-writes.new.self c.fail-else-writes.ensures.fails is

pub returns-in-Failed-clause-other : goal.returns-in-Failed-clause-other
returns-in-Failed-clause-other c is = failed_other c.args.self.now c.fail-in-Failed.new.self c.fail-in-Failed.ensures.fails is

pub returns-then-reads-clause-other : goal.returns-then-reads-clause-other
returns-then-reads-clause-other c is = absurd (c.did_read.ensures.not_other is)

pub returns-then-writes-clause-other : goal.returns-then-writes-clause-other
returns-then-writes-clause-other c is = absurd (c.did_change.ensures.not_other is)
