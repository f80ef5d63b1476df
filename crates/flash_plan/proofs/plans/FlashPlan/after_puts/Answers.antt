use Rattle.std.proofs.Common.{◌≡◌, ◌+◌, ◌∙◌, suc, Some, true, length, refl, sym, subst, arith}
use Rattle.flash_log.specs.declared.reading.LogEnd.{LogEnd}
use Rattle.flash_plan.specs.declared.plans.PlanStep.TheVariants.{Puts}
use Rattle.flash_plan.specs.Standing.{plan_layout, WithinBank, ReadsPuts, ReadsBank}
use Rattle.flash_plan.proofs.BankSteps.{within_map, put_is, put_is_blank, put_is_nothing, puts_fill}
use Rattle.flash_plan.proofs.DeedSteps.{here_reached}
use Rattle.flash_plan.proofs.LeftSteps.{place_left, leave_left}
use Rattle.flash_plan.proofs.TellingSteps.{not_free_told}
use Rattle.flash_plan.proofs.plans.FlashPlan.after_puts.Goals as goal

pub returns-then-place-last-clause-goes : goal.returns-then-place-last-clause-goes
returns-then-place-last-clause-goes c first f g w d behind =
    here_reached (plan_layout c.args.self.now (length c.args.cells.now)) _ c.args.cells.now c.make_line.new.cells first g (Puts c.args.bank c.args.generation (c.args.place + 1)) refl
    (record {
      first = first;
      is = refl;
      reads = subst (λ k. WithinBank (length c.args.cells.now) c.args.bank first g c.args.self.now.best c.args.self.now.latest c.args.cells.now (ReadsPuts (length c.args.cells.now) c.args.generation k c.make_line.new.cells))
          (let e : suc c.args.place ≡ c.args.place + 1 = omega arith in e)
          (put_is (length c.args.cells.now) c.args.bank c.args.generation c.args.place first f g c.args.self.now.best c.args.self.now.latest c.args.cells.now c.args.scratch.now c.args.answer d w
          c.in-Whole.line c.make_line.new.cells c.in-Whole.is c.make_line.ensures);
    })

pub returns-else-place-last-clause-goes : goal.returns-else-place-last-clause-goes
returns-else-place-last-clause-goes c first f g w d behind =
    let p = put_is (length c.args.cells.now) c.args.bank c.args.generation c.args.place first f g c.args.self.now.best c.args.self.now.latest c.args.cells.now c.args.scratch.now c.args.answer d w
    c.in-Whole.line c.make_line.new.cells c.in-Whole.is c.make_line.ensures in
    let e : suc c.args.place ≡ c.args.self.now.places = omega arith in
    let q = subst (λ k. WithinBank (length c.args.cells.now) c.args.bank first g c.args.self.now.best c.args.self.now.latest c.args.cells.now (ReadsPuts (length c.args.cells.now) c.args.generation k c.make_line.new.cells)) e p in
    c.leave_bank.ensures.goes first g
    (within_map (length c.args.cells.now) c.args.bank first g c.args.self.now.best c.args.self.now.latest c.args.cells.now
    (ReadsPuts (length c.args.cells.now) c.args.generation c.args.self.now.places c.make_line.new.cells)
    (ReadsBank (length c.args.cells.now) (Some (record { generation = c.args.generation; next = c.args.self.now.places; is_free = true })) c.make_line.new.cells) q
    (puts_fill (length c.args.cells.now) c.args.generation c.args.self.now.places c.args.self.now.places c.args.bank c.make_line.new.cells (q.before c.args.bank) g behind (omega arith) q.reads))

pub returns-in-Blank-clause-goes : goal.returns-in-Blank-clause-goes
returns-in-Blank-clause-goes c first f g w d behind =
    c.after_blank.ensures.goes first g
    (put_is_blank (length c.args.cells.now) c.args.bank c.args.generation c.args.place first f g c.args.self.now.best c.args.self.now.latest c.args.cells.now c.args.scratch.now c.args.answer d w c.in-Blank.is) behind

pub returns-in-Nothing-clause-goes : goal.returns-in-Nothing-clause-goes
returns-in-Nothing-clause-goes c first f g w d behind =
    c.leave_bank-in-Nothing.ensures.goes first g
    (subst (λ (e : LogEnd). WithinBank (length c.args.cells.now) c.args.bank first g c.args.self.now.best c.args.self.now.latest c.args.cells.now (ReadsBank (length c.args.cells.now) (Some e) c.args.scratch.now))
    (sym c.not_free-log.ensures)
    (put_is_nothing (length c.args.cells.now) c.args.bank c.args.generation c.args.place first f g c.args.self.now.best c.args.self.now.latest c.args.cells.now c.args.scratch.now c.args.answer d w c.in-Nothing.is))

pub returns-then-place-last-clause-less : goal.returns-then-place-last-clause-less
returns-then-place-last-clause-less c = place_left c.args.self.now.banks c.args.bank c.args.self.now.places c.args.place (c.args.place + 1) ((length c.args.cells.now) + 2) c.requires.inside c.requires.place (omega arith)

pub returns-else-place-last-clause-less : goal.returns-else-place-last-clause-less
returns-else-place-last-clause-less c = leave_left c.args.self.now.banks c.args.bank c.args.self.now.places c.args.place ((length c.args.cells.now) + 2) _ c.requires.inside c.requires.place c.leave_bank.ensures.less

pub returns-in-Nothing-clause-less : goal.returns-in-Nothing-clause-less
returns-in-Nothing-clause-less c = leave_left c.args.self.now.banks c.args.bank c.args.self.now.places c.args.place ((length c.args.cells.now) + 2) _ c.requires.inside c.requires.place c.leave_bank-in-Nothing.ensures.less

pub returns-then-place-last-clause-told : goal.returns-then-place-last-clause-told
returns-then-place-last-clause-told c told s is = s

pub returns-else-place-last-clause-told : goal.returns-else-place-last-clause-told
returns-else-place-last-clause-told c told s is = c.leave_bank.ensures.told told s (λ taken. absurd (cc))

pub returns-in-Blank-clause-told : goal.returns-in-Blank-clause-told
returns-in-Blank-clause-told c told s is = c.after_blank.ensures.told told s (omega arith)

pub returns-in-Nothing-clause-told : goal.returns-in-Nothing-clause-told
returns-in-Nothing-clause-told c told s is =
    c.leave_bank-in-Nothing.ensures.told told s
    (not_free_told told c.args.self.now.places c.args.bank c.args.generation c.args.place c.args.place c.args.answer c.not_free-log.result c.not_free-log.ensures (omega arith) c.requires.place is
    (λ blank. absurd (let e = sym c.in-Nothing.is ∙ blank in cc)))
