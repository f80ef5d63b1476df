use Rattle.std.proofs.Common.{◌≡◌, ◌+◌, suc, Some, true, length, refl, subst, arith}
use Rattle.flash_plan.specs.declared.plans.PlanStep.TheVariants.{Free}
use Rattle.flash_plan.specs.Standing.{plan_layout, WithinBank, ReadsFree, ReadsBank}
use Rattle.flash_plan.proofs.BankSteps.{within_map, free_fills}
use Rattle.flash_plan.proofs.DeedSteps.{here_reached}
use Rattle.flash_plan.proofs.LeftSteps.{place_left, leave_left}
use Rattle.flash_plan.proofs.plans.FlashPlan.after_blank.Goals as goal

pub returns-then-place-last-clause-goes : goal.returns-then-place-last-clause-goes
returns-then-place-last-clause-goes c first f w behind =
    here_reached (plan_layout c.args.self.now (length c.args.cells.now)) _ c.args.cells.now c.args.scratch.now first f (Free c.args.bank c.args.generation c.args.next (c.args.place + 1)) refl
    (record {
      first = first;
      is = refl;
      reads = subst (λ k. WithinBank (length c.args.cells.now) c.args.bank first f c.args.self.now.best c.args.self.now.latest c.args.cells.now (ReadsFree (length c.args.cells.now) c.args.generation c.args.next k c.args.scratch.now))
          (let e : suc c.args.place ≡ c.args.place + 1 = omega arith in e) w;
    })

pub returns-clause-goes : goal.returns-clause-goes
returns-clause-goes c first f w behind =
    c.leave_bank.ensures.goes first f
    (within_map (length c.args.cells.now) c.args.bank first f c.args.self.now.best c.args.self.now.latest c.args.cells.now
    (ReadsFree (length c.args.cells.now) c.args.generation c.args.next (suc c.args.place) c.args.scratch.now)
    (ReadsBank (length c.args.cells.now) (Some (record { generation = c.args.generation; next = c.args.next; is_free = true })) c.args.scratch.now) w
    (free_fills (length c.args.cells.now) c.args.generation c.args.next (suc c.args.place) c.args.self.now.places c.args.bank c.args.scratch.now (w.before c.args.bank) f behind (omega arith) w.reads))

pub returns-then-place-last-clause-less : goal.returns-then-place-last-clause-less
returns-then-place-last-clause-less c = place_left c.args.self.now.banks c.args.bank c.args.self.now.places c.args.place (c.args.place + 1) ((length c.args.cells.now) + 2) c.requires.inside c.requires.place (omega arith)

pub returns-clause-less : goal.returns-clause-less
returns-clause-less c = leave_left c.args.self.now.banks c.args.bank c.args.self.now.places c.args.place ((length c.args.cells.now) + 2) _ c.requires.inside c.requires.place c.leave_bank.ensures.less

pub returns-then-place-last-clause-told : goal.returns-then-place-last-clause-told
returns-then-place-last-clause-told c told s below = (s, omega (arith, below))

pub returns-clause-told : goal.returns-clause-told
returns-clause-told c told s below = c.leave_bank.ensures.told told s (λ taken. absurd (cc))
