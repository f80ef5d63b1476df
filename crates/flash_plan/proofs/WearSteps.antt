-- What a plan spends on erases, and which banks a start reads on.
use Rattle.std.proofs.Common.{◌≡◌, ◌≤◌, ◌+◌, ◌*◌, inl, inr, Bool, true, false, ℕ, suc, Option, Some, None, [], length, get_or, nat_eq, nat_lt, if◌then◌else◌, refl, sym, ap, subst, ◌∙◌, arith}
use Rattle.std.proofs.Math.Nat.{suc-mul}
use Rattle.std.proofs.lemmas.Bool.{eqb-false}
use Rattle.flash_places.specs.declared.FlashLine.TheVariants.{Head, Entry}
use Rattle.flash_laws.specs.Logs.{CellList}
use Rattle.flash_laws.specs.Lives.{next_bank}
use Rattle.flash_laws.proofs.CallerLemmas.{next_cases}
use Rattle.flash_log.specs.declared.scanning.Best.TheVariants.{NoLog}
use Rattle.flash_plan.specs.declared.operations.Operation.TheVariants.{Program}
use Rattle.flash_plan.specs.declared.plans.WaitingPut.{WaitingPut}
use Rattle.flash_plan.specs.declared.plans.PlanEnd.TheVariants.{Formatted, OtherSizes}
use Rattle.flash_plan.specs.declared.plans.PlanStep.{PlanStep}
use Rattle.flash_plan.specs.declared.plans.PlanStep.TheVariants.{Heading, Copied, Puts, Free, Erasing, Copying, Ready, Clearing, Filling, Ended}
use Rattle.flash_plan.specs.declared.plans.FlashPlan.{FlashPlan}
use Rattle.flash_plan.specs.Plans.{step_programmed, step_cleared, step_filled, put_operation, step_operation, operation_of, put_at, put_in, put_left, fails_in_step, failed_plan, SkipsOlder, FindsNothing}
use Rattle.flash_plan.specs.Wear.{puts_to_bank, erases_by, erase_credit}

-- ---- an erase is paid for

copy_spends : (places n bank generation done : ℕ) (cells : CellList) (b : Bool)
    → erases_by (Some (if b then Program bank (suc done) (Entry done (get_or cells done [])) else Program bank 0 (Head (suc generation)))) * puts_to_bank places n ≡ 0
copy_spends places n bank generation done cells true = omega arith
copy_spends places n bank generation done cells false = omega arith

put_spends : (places n bank next : ℕ) (put : Option WaitingPut) → erases_by (put_operation bank next put) * puts_to_bank places n ≡ 0
put_spends places n bank next None = omega arith
put_spends places n bank next (Some w) = omega arith

pub erase_paid : (banks places n : ℕ) (put : Option WaitingPut) (cells : CellList) (step : PlanStep)
    → erases_by (step_operation banks step put cells) * puts_to_bank places n ≤ erase_credit places n step
erase_paid banks places n put cells (Heading bank) = omega arith
erase_paid banks places n put cells (Copied bank generation done) = omega arith
erase_paid banks places n put cells (Puts bank generation place) = omega arith
erase_paid banks places n put cells (Free bank generation next place) = omega arith
erase_paid banks places n put cells (Erasing bank generation) = omega arith
erase_paid banks places n put cells (Copying bank generation done) =
    (let e = copy_spends places n (next_bank banks bank) generation done cells (nat_lt done (length cells)) in omega (arith, e))
erase_paid banks places n put cells (Ready bank generation next) = (let e = put_spends places n bank next put in omega (arith, e))
erase_paid banks places n put cells (Clearing bank) = (let e = suc-mul bank (puts_to_bank places n) in omega (arith, e))
erase_paid banks places n put cells (Filling done) = (let e = copy_spends places n 0 0 done cells (nat_lt done (length cells)) in omega (arith, e))
erase_paid banks places n put cells (Ended end) = omega arith

-- what follows has nothing to spend
pub spent : (banks places n w : ℕ) (put : Option WaitingPut) (cells : CellList) (step next : PlanStep) → erase_credit places n next ≡ 0
    → erases_by (step_operation banks step put cells) * puts_to_bank places n + erase_credit places n next ≤ erase_credit places n step + w
spent banks places n w put cells step next none = let p = erase_paid banks places n put cells step in omega (arith, none, p)

-- ---- an erase or a program is done

copy_leaves : (places n banks bank generation done : ℕ) (b : Bool)
    → erase_credit places n (if b then Copying bank generation (suc done) else Ready (next_bank banks bank) (suc generation) (suc n)) ≡ 0
copy_leaves places n banks bank generation done true = refl
copy_leaves places n banks bank generation done false = omega arith

pub copy_left_none : (places n k banks bank generation done : ℕ) (step : PlanStep) → k ≡ n → step ≡ step_programmed banks bank generation done k
    → erase_credit places n step ≡ 0
copy_left_none places n k banks bank generation done step same is =
    ap (erase_credit places n) (is ∙ ap (λ z. step_programmed banks bank generation done z) same)
    ∙ copy_leaves places n banks bank generation done (nat_lt done n)

fill_leaves : (places n done : ℕ) (b : Bool) → erase_credit places n (if b then Filling (suc done) else Ended Formatted) ≡ 0
fill_leaves places n done true = refl
fill_leaves places n done false = refl

pub fill_left_none : (places n k done : ℕ) (step : PlanStep) → step ≡ step_filled done k → erase_credit places n step ≡ 0
fill_left_none places n k done step is = ap (erase_credit places n) is ∙ fill_leaves places n done (nat_lt done k)

module _ (banks places n : ℕ) (cells : CellList) (step : PlanStep) where
  abbrev Spends : Option WaitingPut → PlanStep → PlanStep → Type 0
  Spends put s next = erases_by (step_operation banks s put cells) * puts_to_bank places n + erase_credit places n next
      ≤ erase_credit places n s + put_left (put_at s put)

  clear_pays : (bank : ℕ) (put : Option WaitingPut) (b : Bool) → nat_eq bank 0 ≡ b
      → Spends put (Clearing bank) (if b then Filling 0 else Clearing (next_bank banks bank))
  clear_pays bank put true is = let e = suc-mul bank (puts_to_bank places n) in omega (arith, e)
  clear_pays bank put false is = elim (next_cases banks bank) [
    | inl at_first ↦ absurd (eqb-false bank 0 is at_first.0)
    | inr further ↦
        let e = suc-mul bank (puts_to_bank places n) in
        let f : suc (next_bank banks bank) * puts_to_bank places n ≡ bank * puts_to_bank places n =
        ap (λ k. k * puts_to_bank places n) (let h : suc (next_bank banks bank) ≡ bank = (let g = further.1 in omega (arith, g)) in h) in
        omega (arith, e, f)
  ]

  pub cleared_pays : (put : Option WaitingPut) (bank : ℕ) (next : PlanStep) → step ≡ Clearing bank → next ≡ step_cleared banks bank → Spends put step next
  cleared_pays put bank next is after =
      subst (λ (s : PlanStep). Spends put s next) (sym is)
      (subst (λ (t : PlanStep). Spends put (Clearing bank) t) (sym after) (clear_pays bank put (nat_eq bank 0) refl))

-- ---- an operation failed

fails_credit : (banks places n w : ℕ) (plan : FlashPlan) (put : Option WaitingPut) (cells : CellList) (step : PlanStep) → erase_credit places n plan.step ≡ erase_credit places n step
    → erases_by (step_operation banks step put cells) * puts_to_bank places n + erase_credit places n ((fails_in_step plan put step).step) ≤ erase_credit places n plan.step + w
fails_credit banks places n w plan put cells (Heading bank) e = (let p = erase_paid banks places n put cells (Heading bank) in omega (arith, e, p))
fails_credit banks places n w plan put cells (Copied bank generation done) e = (let p = erase_paid banks places n put cells (Copied bank generation done) in omega (arith, e, p))
fails_credit banks places n w plan put cells (Puts bank generation place) e = (let p = erase_paid banks places n put cells (Puts bank generation place) in omega (arith, e, p))
fails_credit banks places n w plan put cells (Free bank generation next place) e = (let p = erase_paid banks places n put cells (Free bank generation next place) in omega (arith, e, p))
fails_credit banks places n w plan put cells (Erasing bank generation) e = (let p = erase_paid banks places n put cells (Erasing bank generation) in omega (arith, e, p))
fails_credit banks places n w plan put cells (Copying bank generation done) e = (let p = erase_paid banks places n put cells (Copying bank generation done) in omega (arith, e, p))
fails_credit banks places n w plan None cells (Ready bank generation next) e = omega arith
fails_credit banks places n w plan (Some waiting) cells (Ready bank generation next) e = omega arith
fails_credit banks places n w plan put cells (Clearing bank) e = (let p = erase_paid banks places n put cells (Clearing bank) in omega (arith, e, p))
fails_credit banks places n w plan put cells (Filling done) e = (let p = erase_paid banks places n put cells (Filling done) in omega (arith, e, p))
fails_credit banks places n w plan put cells (Ended end) e = omega arith

pub failed_credit : (n : ℕ) (plan new : FlashPlan) (cells : CellList) → new ≡ failed_plan plan
    → erases_by (operation_of plan cells) * puts_to_bank plan.places n + erase_credit plan.places n new.step ≤ erase_credit plan.places n plan.step + put_left (put_in plan)
failed_credit n plan new cells is =
    subst (λ (p : FlashPlan). erases_by (operation_of plan cells) * puts_to_bank plan.places n + erase_credit plan.places n p.step ≤ erase_credit plan.places n plan.step + put_left (put_in plan)) (sym is)
    (fails_credit plan.banks plan.places n (put_left (put_in plan)) plan plan.put cells plan.step refl)

-- ---- a bank whose log is older isn't read on

fails_skips : (plan : FlashPlan) (put : Option WaitingPut) (step : PlanStep) → SkipsOlder plan.best plan.step → SkipsOlder (fails_in_step plan put step).best (fails_in_step plan put step).step
fails_skips plan put (Heading bank) h = tt
fails_skips plan put (Copied bank generation done) h = tt
fails_skips plan put (Puts bank generation place) h = tt
fails_skips plan put (Free bank generation next place) h = tt
fails_skips plan put (Erasing bank generation) h = tt
fails_skips plan put (Copying bank generation done) h = tt
fails_skips plan put (Clearing bank) h = tt
fails_skips plan put (Filling done) h = tt
fails_skips plan None (Ready bank generation next) h = h
fails_skips plan (Some waiting) (Ready bank generation next) h = tt
fails_skips plan put (Ended end) h = h

pub failed_skips : (plan new : FlashPlan) → new ≡ failed_plan plan → SkipsOlder plan.best plan.step → SkipsOlder new.best new.step
failed_skips plan new is h = subst (λ (p : FlashPlan). SkipsOlder p.best p.step) (sym is) (fails_skips plan plan.put plan.step h)

-- ---- a start that read no head

pub failed_nothing : (plan new : FlashPlan) (bank : ℕ) → new ≡ failed_plan plan → plan.step ≡ Heading bank → plan.best ≡ NoLog → FindsNothing new
failed_nothing plan new bank is at none =
    subst FindsNothing (sym (is ∙ ap (fails_in_step plan plan.put) at)) tt

-- a plan that failed has made no store
pub failed_clears : (plan new : FlashPlan) (bank : ℕ) → new ≡ failed_plan plan → plan.step ≡ Clearing bank → new.step ≡ Ended Formatted → ⊥
failed_clears plan new bank is at made =
    absurd (let e = sym (ap (λ (p : FlashPlan). p.step) (is ∙ ap (fails_in_step plan plan.put) at)) ∙ made in cc)

-- nor does it say that a head is of other sizes
fails_other : (plan : FlashPlan) (put : Option WaitingPut) (step : PlanStep) → (fails_in_step plan put step).step ≡ Ended OtherSizes
    → plan.step ≡ Ended OtherSizes
fails_other plan put (Heading bank) is = absurd (cc)
fails_other plan put (Copied bank generation done) is = absurd (cc)
fails_other plan put (Puts bank generation place) is = absurd (cc)
fails_other plan put (Free bank generation next place) is = absurd (cc)
fails_other plan put (Erasing bank generation) is = absurd (cc)
fails_other plan put (Copying bank generation done) is = absurd (cc)
fails_other plan None (Ready bank generation next) is = is
fails_other plan (Some waiting) (Ready bank generation next) is = absurd (cc)
fails_other plan put (Clearing bank) is = absurd (cc)
fails_other plan put (Filling done) is = absurd (cc)
fails_other plan put (Ended end) is = is

pub failed_other : (plan new : FlashPlan) → new ≡ failed_plan plan → new.step ≡ Ended OtherSizes → plan.step ≡ Ended OtherSizes
failed_other plan new is other = fails_other plan plan.put plan.step (ap (λ (p : FlashPlan). p.step) (sym is) ∙ other)
