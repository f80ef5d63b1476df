use Rattle.std.proofs.Common.{length, set, ◌∙◌, arith, ◌+◌, ◌-◌, ◌*◌, ◌<◌, suc, Option, subst, sym}
use Rattle.std.proofs.Math.ListN.{length-set}
use Rattle.flash_plan.specs.Standing.{plan_layout}
use Rattle.flash_plan.proofs.BankSteps.{cell_is, cell_is_none}
use Rattle.flash_plan.proofs.DeedSteps.{cell_read}
use Rattle.flash_plan.specs.declared.plans.WaitingPut.{WaitingPut}
use Rattle.flash_plan.specs.Plans.{step_left}
use Rattle.flash_plan.proofs.LeftSteps.{cell_left, leave_left}
use Rattle.flash_plan.proofs.TellingSteps.{cell_told}
use Rattle.flash_plan.proofs.plans.FlashPlan.after_copied.Goals as goal

pub returns-in-Some-clause-goes : goal.returns-in-Some-clause-goes
returns-in-Some-clause-goes c first f g w d =
    cell_read (plan_layout c.args.self.now (length c.args.cells.now)) c.args.bank c.args.generation c.args.done (length (set c.args.scratch.now c.args.done c.in-Some.payload)) first g _ c.args.cells.now
    (set c.args.scratch.now c.args.done c.in-Some.payload)
    (length-set c.args.scratch.now c.args.done c.in-Some.payload ∙ c.requires.alike) (length-set c.args.scratch.now c.args.done c.in-Some.payload ∙ c.requires.alike) c.after_cell-self.ensures.is
    (cell_is (length c.args.cells.now) c.args.bank c.args.generation c.args.done first f g c.args.self.now.best c.args.self.now.latest c.args.cells.now c.args.scratch.now c.args.answer d
    c.requires.alike c.requires.done w c.in-Some.payload c.in-Some.ensures.some)

pub returns-in-None-clause-goes : goal.returns-in-None-clause-goes
returns-in-None-clause-goes c first f g w d =
    c.leave_bank.ensures.goes first g
    (cell_is_none (length c.args.cells.now) c.args.bank c.args.generation c.args.done first f g c.args.self.now.best c.args.self.now.latest c.args.cells.now c.args.scratch.now c.args.answer d
    c.requires.alike c.requires.done w (c.copied_cell.ensures.none c.in-None.is))

pub returns-in-Some-clause-less : goal.returns-in-Some-clause-less
returns-in-Some-clause-less c =
    subst (λ (w : Option WaitingPut). step_left c.args.self.now.banks c.args.self.now.places (length c.args.cells.now) w c.after_cell-self.result < (c.args.self.now.banks - c.args.bank) * c.args.self.now.places - suc c.args.done + ((length c.args.cells.now) + 2)) (sym c.requires.reading)
    (cell_left c.args.self.now.banks c.args.self.now.places (length c.args.cells.now) (length (set c.args.scratch.now c.args.done c.in-Some.payload)) c.args.bank c.args.generation c.args.done c.after_cell-self.result c.requires.inside (omega arith) c.requires.done
    (length-set c.args.scratch.now c.args.done c.in-Some.payload ∙ c.requires.alike) c.after_cell-self.ensures.is)

pub returns-in-None-clause-less : goal.returns-in-None-clause-less
returns-in-None-clause-less c = leave_left c.args.self.now.banks c.args.bank c.args.self.now.places (suc c.args.done) ((length c.args.cells.now) + 2) _ c.requires.inside (omega arith) c.leave_bank.ensures.less

pub returns-in-Some-clause-told : goal.returns-in-Some-clause-told
returns-in-Some-clause-told c told s =
    cell_told told c.args.self.now.banks c.args.self.now.places (length (set c.args.scratch.now c.args.done c.in-Some.payload)) c.args.bank c.args.generation c.args.done c.args.self.now.put c.args.self.now.best c.args.self.now.latest
    c.after_cell-self.result c.after_cell-self.ensures.is s

pub returns-in-None-clause-told : goal.returns-in-None-clause-told
returns-in-None-clause-told c told s = c.leave_bank.ensures.told told s tt
