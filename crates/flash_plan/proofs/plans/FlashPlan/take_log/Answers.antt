use Rattle.std.proofs.Common.{Option, length, refl, sym, subst, ◌∙◌}
use Rattle.std.proofs.lemmas.Option.{none-some}
use Rattle.flash_log.specs.declared.reading.LogEnd.{LogEnd}
use Rattle.flash_plan.specs.Standing.{WithinBank, ReadsBank}
use Rattle.flash_plan.proofs.ScanSteps.{takes_none, takes_not, takes_it}
use Rattle.flash_plan.proofs.TellingSteps.{best_told}
use Rattle.flash_plan.proofs.plans.FlashPlan.take_log.Goals as goal

pub returns-in-None-clause-takes : goal.returns-in-None-clause-takes
returns-in-None-clause-takes c first f w =
    takes_none (length c.args.cells.now) c.args.bank first f c.args.self.now.best c.args.self.now.latest c.args.cells.now c.args.scratch.now
    (subst (λ (o : Option LogEnd). WithinBank (length c.args.cells.now) c.args.bank first f c.args.self.now.best c.args.self.now.latest c.args.cells.now (ReadsBank (length c.args.cells.now) o c.args.scratch.now))
    c.in-None.is w)

pub returns-then-not-is_new-clause-takes : goal.returns-then-not-is_new-clause-takes
returns-then-not-is_new-clause-takes c first f w =
    takes_not (length c.args.cells.now) c.args.bank first f c.args.self.now.best c.args.self.now.latest c.args.cells.now c.args.scratch.now
    c.in-Some.log c.judge-best.result.0 c.judge-best.result.1 c.judge-best.ensures.best c.judge-best.ensures.newest
    (subst (λ (o : Option LogEnd). WithinBank (length c.args.cells.now) c.args.bank first f c.args.self.now.best c.args.self.now.latest c.args.cells.now (ReadsBank (length c.args.cells.now) o c.args.scratch.now))
    c.in-Some.is w) c.if-not-is_new.true

pub returns-clause-takes : goal.returns-clause-takes
returns-clause-takes c first f w =
    takes_it (length c.args.cells.now) c.args.bank first f c.args.self.now.best c.args.self.now.latest c.args.cells.now c.args.scratch.now
    c.in-Some.log c.judge-best.result.0 c.judge-best.result.1 c.judge-best.ensures.best c.judge-best.ensures.newest
    (subst (λ (o : Option LogEnd). WithinBank (length c.args.cells.now) c.args.bank first f c.args.self.now.best c.args.self.now.latest c.args.cells.now (ReadsBank (length c.args.cells.now) o c.args.scratch.now))
    c.in-Some.is w) c.if-not-is_new.false c.copy_from_slice.new.self c.copy_from_slice.ensures.after

pub returns-in-None-clause-told : goal.returns-in-None-clause-told
returns-in-None-clause-told c told s l = s

pub returns-then-not-is_new-clause-told : goal.returns-then-not-is_new-clause-told
returns-then-not-is_new-clause-told c told s l =
    best_told told c.args.self.now.places c.args.bank _ c.args.self.now.best c.judge-best.result.0 c.args.self.now.latest c.args.log c.in-Some.log c.in-Some.is c.judge-best.ensures.best l s

pub returns-clause-told : goal.returns-clause-told
returns-clause-told c told s l =
    best_told told c.args.self.now.places c.args.bank _ c.args.self.now.best c.judge-best.result.0 c.args.self.now.latest c.args.log c.in-Some.log c.in-Some.is c.judge-best.ensures.best l s

pub returns-in-None-clause-none : goal.returns-in-None-clause-none
returns-in-None-clause-none c nothing = refl

pub returns-then-not-is_new-clause-none : goal.returns-then-not-is_new-clause-none
returns-then-not-is_new-clause-none c nothing = absurd (none-some c.in-Some.log (sym nothing ∙ c.in-Some.is))

pub returns-clause-none : goal.returns-clause-none
returns-clause-none c nothing = absurd (none-some c.in-Some.log (sym nothing ∙ c.in-Some.is))
