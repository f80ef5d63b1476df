use Rattle.std.proofs.Common.{Some, length, sym, subst, ◌+◌, ◌∙◌}
use Rattle.flash_log.specs.declared.reading.LogEnd.{LogEnd}
use Rattle.flash_plan.specs.Standing.{WithinBank, ReadsBank}
use Rattle.flash_plan.proofs.BankSteps.{free_is_blank, free_is_none}
use Rattle.flash_plan.proofs.LeftSteps.{leave_left}
use Rattle.flash_plan.proofs.TellingSteps.{not_free_told}
use Rattle.flash_plan.proofs.plans.FlashPlan.after_free.Goals as goal

pub returns-in-Blank-clause-goes : goal.returns-in-Blank-clause-goes
returns-in-Blank-clause-goes c first f g w d behind =
    c.after_blank.ensures.goes first g
    (free_is_blank (length c.args.cells.now) c.args.bank c.args.generation c.args.place first f g c.args.self.now.best c.args.self.now.latest c.args.cells.now c.args.scratch.now c.args.answer d
    c.args.next w c.in-Blank.is) behind

pub returns-in-Whole-clause-goes : goal.returns-in-Whole-clause-goes
returns-in-Whole-clause-goes c first f g w d behind =
    c.leave_bank.ensures.goes first g
    (subst (λ (e : LogEnd). WithinBank (length c.args.cells.now) c.args.bank first g c.args.self.now.best c.args.self.now.latest c.args.cells.now (ReadsBank (length c.args.cells.now) (Some e) c.args.scratch.now))
    (sym c.not_free-log.ensures)
    (free_is_none (length c.args.cells.now) c.args.bank c.args.generation c.args.place first f g c.args.self.now.best c.args.self.now.latest c.args.cells.now c.args.scratch.now c.args.answer d
    c.args.next w))

pub returns-in-Nothing-clause-goes : goal.returns-in-Nothing-clause-goes
returns-in-Nothing-clause-goes c first f g w d behind =
    c.leave_bank-in-Nothing.ensures.goes first g
    (subst (λ (e : LogEnd). WithinBank (length c.args.cells.now) c.args.bank first g c.args.self.now.best c.args.self.now.latest c.args.cells.now (ReadsBank (length c.args.cells.now) (Some e) c.args.scratch.now))
    (sym c.not_free-log-in-Nothing.ensures)
    (free_is_none (length c.args.cells.now) c.args.bank c.args.generation c.args.place first f g c.args.self.now.best c.args.self.now.latest c.args.cells.now c.args.scratch.now c.args.answer d
    c.args.next w))

pub returns-in-Whole-clause-less : goal.returns-in-Whole-clause-less
returns-in-Whole-clause-less c = leave_left c.args.self.now.banks c.args.bank c.args.self.now.places c.args.place ((length c.args.cells.now) + 2) _ c.requires.inside c.requires.place c.leave_bank.ensures.less

pub returns-in-Nothing-clause-less : goal.returns-in-Nothing-clause-less
returns-in-Nothing-clause-less c = leave_left c.args.self.now.banks c.args.bank c.args.self.now.places c.args.place ((length c.args.cells.now) + 2) _ c.requires.inside c.requires.place c.leave_bank-in-Nothing.ensures.less

pub returns-in-Blank-clause-told : goal.returns-in-Blank-clause-told
returns-in-Blank-clause-told c told s below is = c.after_blank.ensures.told told s below

pub returns-in-Whole-clause-told : goal.returns-in-Whole-clause-told
returns-in-Whole-clause-told c told s below is =
    c.leave_bank.ensures.told told s
    (not_free_told told c.args.self.now.places c.args.bank c.args.generation c.args.next c.args.place c.args.answer c.not_free-log.result c.not_free-log.ensures below c.requires.place is
    (λ blank. absurd (let e = sym c.in-Whole.is ∙ blank in cc)))

pub returns-in-Nothing-clause-told : goal.returns-in-Nothing-clause-told
returns-in-Nothing-clause-told c told s below is =
    c.leave_bank-in-Nothing.ensures.told told s
    (not_free_told told c.args.self.now.places c.args.bank c.args.generation c.args.next c.args.place c.args.answer c.not_free-log-in-Nothing.result c.not_free-log-in-Nothing.ensures below c.requires.place is
    (λ blank. absurd (let e = sym c.in-Nothing.is ∙ blank in cc)))
