use Rattle.std.proofs.Common.{◌≡◌, ◌≢◌, ◌+◌, ◌<◌, inl, inr, ℕ, suc, None, length, sym, subst, ◌∙◌, arith, ◌-◌, ◌*◌}
use Rattle.std.proofs.lemmas.Bool.{cases_eq}
use Rattle.flash_laws.specs.Lives.{off}
use Rattle.flash_log.specs.declared.scanning.Best.{Best}
use Rattle.flash_log.specs.declared.scanning.Best.TheVariants.{One}
use Rattle.flash_log.specs.Going.{machine}
use Rattle.flash_log.specs.Taking.{last_generation}
use Rattle.flash_plan.specs.declared.plans.PlanStep.{PlanStep}
use Rattle.flash_plan.specs.declared.plans.PlanStep.TheVariants.{Heading, Erasing, Ready, Ended}
use Rattle.flash_plan.specs.declared.plans.PlanEnd.TheVariants.{NoStore, Exhausted}
use Rattle.flash_plan.specs.Plans.{StepFits, BestFits}
use Rattle.flash_plan.specs.Standing.{plan_layout, BeforeBank, ReachesStep}
use Rattle.flash_plan.proofs.ScanSteps.{next_heading, ends_none, ends_tie, ends_last, ends_found, ends_ready}
use Rattle.flash_plan.proofs.LeftSteps.{next_left, renewed_left}
use Rattle.flash_laws.proofs.CallerLemmas.{next_inside}
use Rattle.flash_plan.proofs.TellingSteps.{renewed_told}
use Rattle.flash_plan.specs.Telling.{StartTold, StepTold}
use Rattle.flash_plan.proofs.plans.FlashPlan.after_bank.Goals as goal

pub returns-then-bank-self-clause-goes : goal.returns-then-bank-self-clause-goes
returns-then-bank-self-clause-goes c first f scratch b =
    subst (λ k. ReachesStep (plan_layout c.args.self.now (length c.args.cells.now)) c.args.self.now.best c.args.self.now.latest c.args.cells.now scratch (machine first off) f (Heading k))
    (let e : suc c.args.bank ≡ c.args.bank + 1 = omega arith in e)
    (next_heading (plan_layout c.args.self.now (length c.args.cells.now)) first f c.args.self.now.best c.args.self.now.latest c.args.cells.now scratch (suc c.args.bank) b)

pub returns-then-may_go_on-clause-goes : goal.returns-then-may_go_on-clause-goes
returns-then-may_go_on-clause-goes c first f scratch b =
    subst (λ (z : Best). BeforeBank (length c.args.cells.now) (suc c.args.bank) first f z c.args.self.now.latest c.args.cells.now
    → ReachesStep (plan_layout c.args.self.now (length c.args.cells.now)) z c.args.self.now.latest c.args.cells.now scratch (machine first off) f (Ready c.in-One.log.bank c.in-One.log.generation c.in-One.log.next))
    (sym c.in-One.is)
    (λ s. ends_ready (plan_layout c.args.self.now (length c.args.cells.now)) (suc c.args.bank) first f c.args.self.now.latest c.args.cells.now scratch (omega arith) c.in-One.log s
    c.requires.plan.two (subst (λ (z : Best). BestFits c.args.self.now.banks z) c.in-One.is c.requires.plan.best)
    (c.may_go_on.ensures.free c.if-may_go_on.true) (c.may_go_on.ensures.read c.if-may_go_on.true) (c.may_go_on.ensures.older c.if-may_go_on.true)) b

renewed_fits : (banks places n bank generation : ℕ) (step : PlanStep) → bank < banks → (generation ≡ last_generation → step ≡ Ended Exhausted) → (generation ≢ last_generation → step ≡ Erasing bank generation)
    → (generation ≢ last_generation → generation < last_generation) → StepFits banks places n step None
renewed_fits banks places n bank generation step inside last copied next = elim (cases_eq generation last_generation) [
  | inl is ↦ subst (λ (s : PlanStep). StepFits banks places n s None) (sym (last is)) tt
  | inr ne ↦ subst (λ (s : PlanStep). StepFits banks places n s None) (sym (copied ne)) (inside, next ne)
]

pub returns-else-may_go_on-clause-fits : goal.returns-else-may_go_on-clause-fits
returns-else-may_go_on-clause-fits c =
    renewed_fits c.args.self.now.banks c.args.self.now.places (length c.args.cells.now) c.in-One.log.bank c.in-One.log.generation c.renewing.result
    (subst (λ (z : Best). BestFits c.args.self.now.banks z) c.in-One.is c.requires.plan.best) c.renewing.ensures.last c.renewing.ensures.copied c.renewing.ensures.next

pub returns-else-may_go_on-clause-goes : goal.returns-else-may_go_on-clause-goes
returns-else-may_go_on-clause-goes c first f scratch b =
    subst (λ (z : Best). BeforeBank (length c.args.cells.now) (suc c.args.bank) first f z c.args.self.now.latest c.args.cells.now
    → ReachesStep (plan_layout c.args.self.now (length c.args.cells.now)) z c.args.self.now.latest c.args.cells.now scratch (machine first off) f c.renewing.result)
    (sym c.in-One.is)
    (λ s. elim (cases_eq c.in-One.log.generation last_generation) [
      | inl is ↦ subst (λ (t : PlanStep). ReachesStep (plan_layout c.args.self.now (length c.args.cells.now)) (One c.in-One.log) c.args.self.now.latest c.args.cells.now scratch (machine first off) f t) (sym (c.renewing.ensures.last is))
          (ends_last (plan_layout c.args.self.now (length c.args.cells.now)) (suc c.args.bank) first f c.args.self.now.latest c.args.cells.now scratch (omega arith) c.in-One.log s is)
      | inr ne ↦ subst (λ (t : PlanStep). ReachesStep (plan_layout c.args.self.now (length c.args.cells.now)) (One c.in-One.log) c.args.self.now.latest c.args.cells.now scratch (machine first off) f t) (sym (c.renewing.ensures.copied ne))
          (ends_found (plan_layout c.args.self.now (length c.args.cells.now)) (suc c.args.bank) first f c.args.self.now.latest c.args.cells.now scratch (omega arith) c.in-One.log s)
    ]) b

pub returns-in-NoLog-clause-goes : goal.returns-in-NoLog-clause-goes
returns-in-NoLog-clause-goes c first f scratch b =
    subst (λ (z : Best). BeforeBank (length c.args.cells.now) (suc c.args.bank) first f z c.args.self.now.latest c.args.cells.now
    → ReachesStep (plan_layout c.args.self.now (length c.args.cells.now)) z c.args.self.now.latest c.args.cells.now scratch (machine first off) f (Ended NoStore))
    (sym c.in-NoLog.is)
    (λ s. ends_none (plan_layout c.args.self.now (length c.args.cells.now)) (suc c.args.bank) first f c.args.self.now.latest c.args.cells.now scratch (omega arith) s) b

pub returns-in-Tie-clause-goes : goal.returns-in-Tie-clause-goes
returns-in-Tie-clause-goes c first f scratch b =
    subst (λ (z : Best). BeforeBank (length c.args.cells.now) (suc c.args.bank) first f z c.args.self.now.latest c.args.cells.now
    → ReachesStep (plan_layout c.args.self.now (length c.args.cells.now)) z c.args.self.now.latest c.args.cells.now scratch (machine first off) f (Ended NoStore))
    (sym c.in-Tie.is)
    (λ s. ends_tie (plan_layout c.args.self.now (length c.args.cells.now)) (suc c.args.bank) first f c.args.self.now.latest c.args.cells.now scratch (omega arith) c.in-Tie.field-0 s) b

pub returns-then-bank-self-clause-less : goal.returns-then-bank-self-clause-less
returns-then-bank-self-clause-less c = next_left c.args.self.now.banks c.args.self.now.places (length c.args.cells.now) c.args.bank (c.args.bank + 1) (let e : c.args.bank + 1 ≡ suc c.args.bank = omega arith in e)

pub returns-else-may_go_on-clause-less : goal.returns-else-may_go_on-clause-less
returns-else-may_go_on-clause-less c = renewed_left c.args.self.now.banks c.args.self.now.places (length c.args.cells.now) ((c.args.self.now.banks - suc c.args.bank) * c.args.self.now.places) c.in-One.log.bank c.in-One.log.generation c.renewing.result c.renewing.ensures.last c.renewing.ensures.copied

pub returns-then-bank-self-clause-told : goal.returns-then-bank-self-clause-told
returns-then-bank-self-clause-told c told s =
    subst (λ k. StartTold told c.args.self.now.places k c.args.self.now.best c.args.self.now.latest) (let e : suc c.args.bank ≡ c.args.bank + 1 = omega arith in e) s

pub returns-then-may_go_on-clause-told : goal.returns-then-may_go_on-clause-told
returns-then-may_go_on-clause-told c told s = tt

pub returns-else-may_go_on-clause-told : goal.returns-else-may_go_on-clause-told
returns-else-may_go_on-clause-told c told s =
    subst (λ (z : Best). StepTold told c.args.self.now.banks c.args.self.now.places None z c.args.self.now.latest c.renewing.result) (sym c.in-One.is)
    (renewed_told told c.args.self.now.banks c.args.self.now.places (suc c.args.bank) c.in-One.log c.args.self.now.latest
    (subst (λ (z : Best). StartTold told c.args.self.now.places (suc c.args.bank) z c.args.self.now.latest) c.in-One.is s) (omega arith)
    (next_inside c.args.self.now.banks c.in-One.log.bank c.requires.plan.two (subst (λ (z : Best). BestFits c.args.self.now.banks z) c.in-One.is c.requires.plan.best))
    c.may_go_on.result c.may_go_on.ensures.may c.if-may_go_on.false None c.renewing.result c.renewing.ensures.last c.renewing.ensures.copied)

pub returns-in-NoLog-clause-told : goal.returns-in-NoLog-clause-told
returns-in-NoLog-clause-told c told s = tt

pub returns-in-Tie-clause-told : goal.returns-in-Tie-clause-told
returns-in-Tie-clause-told c told s = tt

pub returns-then-bank-self-clause-no_log : goal.returns-then-bank-self-clause-no_log
returns-then-bank-self-clause-no_log c none = none

pub returns-then-may_go_on-clause-no_log : goal.returns-then-may_go_on-clause-no_log
returns-then-may_go_on-clause-no_log c none = absurd (let e = sym none ∙ c.in-One.is in cc)

pub returns-else-may_go_on-clause-no_log : goal.returns-else-may_go_on-clause-no_log
returns-else-may_go_on-clause-no_log c none = absurd (let e = sym none ∙ c.in-One.is in cc)

pub returns-in-NoLog-clause-no_log : goal.returns-in-NoLog-clause-no_log
returns-in-NoLog-clause-no_log c none = tt

pub returns-in-Tie-clause-no_log : goal.returns-in-Tie-clause-no_log
returns-in-Tie-clause-no_log c none = tt
