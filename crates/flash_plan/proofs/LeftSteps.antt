-- How many operations are left.
use Rattle.std.proofs.Common.{◌≡◌, ◌≢◌, ◌<◌, ◌≤◌, ◌+◌, ◌-◌, ◌*◌, inl, inr, Bool, true, false, ℕ, suc, Option, Some, None, nat_eq, nat_lt, if◌then◌else◌, refl, sym, ap, subst, ◌∙◌, arith}
use Rattle.std.proofs.Math.Nat.{suc-mul}
use Rattle.std.proofs.lemmas.Bool.{cases_eq, ltb-true, ltb-false, eqb-false}
use Rattle.flash_laws.specs.Logs.{CellList}
use Rattle.flash_laws.specs.Lives.{next_bank}
use Rattle.flash_log.specs.Taking.{last_generation}
use Rattle.flash_laws.proofs.CallerLemmas.{next_cases}
use Rattle.flash_plan.specs.declared.plans.WaitingPut.{WaitingPut}
use Rattle.flash_plan.specs.declared.plans.PlanEnd.TheVariants.{Exhausted, Formatted}
use Rattle.flash_plan.specs.declared.plans.PlanStep.{PlanStep}
use Rattle.flash_plan.specs.declared.plans.PlanStep.TheVariants.{Heading, Copied, Puts, Free, Erasing, Copying, Ready, Clearing, Filling, Ended}
use Rattle.flash_plan.specs.declared.plans.FlashPlan.{FlashPlan}
use Rattle.flash_plan.specs.Plans.{StepFits, put_operation, step_operation, operation_of, fails_in_step, failed_plan, put_left, step_left, operations_left, step_after, step_programmed, step_cleared, step_filled}

-- one bank and those after it
pub one_bank : (banks bank places : ℕ) → bank < banks → (banks - bank) * places ≡ (banks - suc bank) * places + places
one_bank banks bank places inside =
    ap (λ k. k * places) (let e : banks - bank ≡ suc (banks - suc bank) = omega (arith, inside) in e) ∙ suc-mul (banks - suc bank) places

-- a bank is left
pub bank_left : (banks bank places read m : ℕ) → bank < banks → read < places → (banks - suc bank) * places + m < (banks - bank) * places - read + m
bank_left banks bank places read m inside below = let e = one_bank banks bank places inside in omega (arith, e, below)

pub place_left : (banks bank places read later m : ℕ) → bank < banks → read < places → read < later → (banks - bank) * places - later + m < (banks - bank) * places - read + m
place_left banks bank places read later m inside below more = let e = one_bank banks bank places inside in omega (arith, e, below, more)

pub head_left : (banks bank places m : ℕ) → bank < banks → 0 < places → (banks - bank) * places - 1 + m < (banks - bank) * places + m
head_left banks bank places m inside some = let e = one_bank banks bank places inside in omega (arith, e, some)

cell_moves : (banks places n bank generation done : ℕ) → bank < banks → n < places → done < n → (b : Bool) → nat_lt (suc done) n ≡ b
    → step_left banks places n None (if b then Copied bank generation (suc done) else Puts bank generation (suc n)) < (banks - bank) * places - suc done + (n + 2)
cell_moves banks places n bank generation done inside room below true is = place_left banks bank places (suc done) (suc (suc done)) (n + 2) inside (omega (arith, room, below)) (omega arith)
cell_moves banks places n bank generation done inside room below false is =
    let all = ltb-false (suc done) n is in place_left banks bank places (suc done) (suc n) (n + 2) inside (omega (arith, room, below)) (omega (arith, below))

pub cell_left : (banks places n k bank generation done : ℕ) (step : PlanStep) → bank < banks → n < places → done < n → k ≡ n → step ≡ step_after bank generation done k
    → step_left banks places n None step < (banks - bank) * places - suc done + (n + 2)
cell_left banks places n k bank generation done step inside room below same is =
    subst (λ (s : PlanStep). step_left banks places n None s < (banks - bank) * places - suc done + (n + 2)) (sym (is ∙ ap (λ z. step_after bank generation done z) same))
    (cell_moves banks places n bank generation done inside room below (nat_lt (suc done) n) refl)

-- a step of a plan that fits has an operation left, if one comes next
ready_some : (bank next : ℕ) (put : Option WaitingPut) → (put_operation bank next put ≡ None → ⊥) → 0 < put_left put
ready_some bank next None comes = absurd (comes refl)
ready_some bank next (Some put) comes = omega arith

pub some_left : (banks places n : ℕ) (put : Option WaitingPut) (cells : CellList) (step : PlanStep) → StepFits banks places n step put
    → (step_operation banks step put cells ≡ None → ⊥) → 0 < step_left banks places n put step
some_left banks places n put cells (Heading bank) fits comes = omega arith
some_left banks places n put cells (Copied bank generation done) fits comes = omega arith
some_left banks places n put cells (Puts bank generation place) fits comes = omega arith
some_left banks places n put cells (Free bank generation next place) fits comes = omega arith
some_left banks places n put cells (Erasing bank generation) fits comes = omega arith
some_left banks places n put cells (Copying bank generation done) fits comes = (let h = fits.1.1 in omega (arith, h))
some_left banks places n put cells (Ready bank generation next) fits comes = ready_some bank next put comes
some_left banks places n put cells (Clearing bank) fits comes = omega arith
some_left banks places n put cells (Filling done) fits comes = (let h = fits.0 in omega (arith, h))
some_left banks places n put cells (Ended end) fits comes = absurd (comes refl)

-- a plan that has failed has none left
fails_ready_left : (n : ℕ) (plan : FlashPlan) (bank generation next : ℕ) (put : Option WaitingPut) → (put_operation bank next put ≡ None → ⊥)
    → operations_left n (fails_in_step plan put (Ready bank generation next)) ≡ 0
fails_ready_left n plan bank generation next None comes = absurd (comes refl)
fails_ready_left n plan bank generation next (Some put) comes = refl

pub fails_left : (n banks : ℕ) (plan : FlashPlan) (put : Option WaitingPut) (cells : CellList) (step : PlanStep) → (step_operation banks step put cells ≡ None → ⊥)
    → operations_left n (fails_in_step plan put step) ≡ 0
fails_left n banks plan put cells (Heading bank) comes = refl
fails_left n banks plan put cells (Copied bank generation done) comes = refl
fails_left n banks plan put cells (Puts bank generation place) comes = refl
fails_left n banks plan put cells (Free bank generation next place) comes = refl
fails_left n banks plan put cells (Erasing bank generation) comes = refl
fails_left n banks plan put cells (Copying bank generation done) comes = refl
fails_left n banks plan put cells (Ready bank generation next) comes = fails_ready_left n plan bank generation next put comes
fails_left n banks plan put cells (Clearing bank) comes = refl
fails_left n banks plan put cells (Filling done) comes = refl
fails_left n banks plan put cells (Ended end) comes = absurd (comes refl)

-- ---- an erase or a program is done

copy_moves_left : (banks places n bank generation done : ℕ) (put : Option WaitingPut) → done ≤ n → (b : Bool) → nat_lt done n ≡ b
    → step_left banks places n put (if b then Copying bank generation (suc done) else Ready (next_bank banks bank) (suc generation) (suc n)) < n + 1 - done + put_left put
copy_moves_left banks places n bank generation done put most true is = (let h = ltb-true done n is in omega (arith, h))
copy_moves_left banks places n bank generation done put most false is = omega (arith, most)

pub copy_left : (banks places n k bank generation done : ℕ) (put : Option WaitingPut) (step : PlanStep) → done ≤ n → k ≡ n → step ≡ step_programmed banks bank generation done k
    → step_left banks places n put step < n + 1 - done + put_left put
copy_left banks places n k bank generation done put step most same is =
    subst (λ (s : PlanStep). step_left banks places n put s < n + 1 - done + put_left put) (sym (is ∙ ap (λ z. step_programmed banks bank generation done z) same))
    (copy_moves_left banks places n bank generation done put most (nat_lt done n) refl)

fill_moves_left : (banks places n done : ℕ) (put : Option WaitingPut) → done ≤ n → (b : Bool) → nat_lt done n ≡ b
    → step_left banks places n put (if b then Filling (suc done) else Ended Formatted) < n + 1 - done
fill_moves_left banks places n done put most true is = (let h = ltb-true done n is in omega (arith, h))
fill_moves_left banks places n done put most false is = omega (arith, most)

pub fill_left : (banks places n k done : ℕ) (put : Option WaitingPut) (step : PlanStep) → done ≤ n → k ≡ n → step ≡ step_filled done k
    → step_left banks places n put step < n + 1 - done
fill_left banks places n k done put step most same is =
    subst (λ (s : PlanStep). step_left banks places n put s < n + 1 - done) (sym (is ∙ ap (λ z. step_filled done z) same)) (fill_moves_left banks places n done put most (nat_lt done n) refl)

-- the last bank comes first, and bank 0 last
clear_moves_left : (banks places n bank : ℕ) (put : Option WaitingPut) → bank < banks → (b : Bool) → nat_eq bank 0 ≡ b
    → step_left banks places n put (if b then Filling 0 else Clearing (next_bank banks bank)) < bank + (n + 2)
clear_moves_left banks places n bank put inside true is = omega arith
clear_moves_left banks places n bank put inside false is = elim (next_cases banks bank) [
  | inl at_first ↦ absurd (eqb-false bank 0 is at_first.0)
  | inr further ↦ (let e = further.1 in omega (arith, e))
]

pub clear_left : (banks places n bank : ℕ) (put : Option WaitingPut) (step : PlanStep) → bank < banks → step ≡ step_cleared banks bank
    → step_left banks places n put step < bank + (n + 2)
clear_left banks places n bank put step inside is =
    subst (λ (s : PlanStep). step_left banks places n put s < bank + (n + 2)) (sym is) (clear_moves_left banks places n bank put inside (nat_eq bank 0) refl)

-- ---- in the words of the calls

pub next_left : (banks places n bank k : ℕ) → k ≡ suc bank → (banks - k) * places + (n + 2) ≤ (banks - suc bank) * places + (n + 2)
next_left banks places n bank k e = subst (λ z. (banks - z) * places + (n + 2) ≤ (banks - suc bank) * places + (n + 2)) (sym e) (omega arith)

pub renewed_left : (banks places n m bank generation : ℕ) (step : PlanStep) → (generation ≡ last_generation → step ≡ Ended Exhausted) → (generation ≢ last_generation → step ≡ Erasing bank generation)
    → step_left banks places n None step ≤ m + (n + 2)
renewed_left banks places n m bank generation step last copied = elim (cases_eq generation last_generation) [
  | inl is ↦ subst (λ (s : PlanStep). step_left banks places n None s ≤ m + (n + 2)) (sym (last is)) (omega arith)
  | inr ne ↦ subst (λ (s : PlanStep). step_left banks places n None s ≤ m + (n + 2)) (sym (copied ne)) (omega arith)
]

pub left_as : (banks banks' places places' n n' bank : ℕ) (put : Option WaitingPut) (step : PlanStep) → banks' ≡ banks → places' ≡ places → n' ≡ n → put ≡ None
    → step_left banks' places' n' None step ≤ (banks' - suc bank) * places' + (n' + 2) → step_left banks' places' n put step ≤ (banks - suc bank) * places + (n + 2)
left_as banks banks' places places' n n' bank put step e h i j less =
    subst (λ (w : Option WaitingPut). step_left banks' places' n w step ≤ (banks - suc bank) * places + (n + 2)) (sym j)
    (subst (λ z. step_left banks' places' n None step ≤ (z - suc bank) * places + (n + 2)) e
    (subst (λ z. step_left banks' places' n None step ≤ (banks' - suc bank) * z + (n + 2)) h
    (subst (λ z. step_left banks' places' z None step ≤ (banks' - suc bank) * places' + (z + 2)) i less)))

pub leave_head : (banks bank places m x : ℕ) → bank < banks → 0 < places → x ≤ (banks - suc bank) * places + m → x < (banks - bank) * places + m
leave_head banks bank places m x inside some less = let e = one_bank banks bank places inside in omega (arith, e, some, less)

pub leave_left : (banks bank places read m x : ℕ) → bank < banks → read < places → x ≤ (banks - suc bank) * places + m → x < (banks - bank) * places - read + m
leave_left banks bank places read m x inside below less = let e = one_bank banks bank places inside in omega (arith, e, below, less)

pub fail_less : (n : ℕ) (plan new : FlashPlan) (cells : CellList) → new ≡ failed_plan plan → StepFits plan.banks plan.places n plan.step plan.put → (operation_of plan cells ≡ None → ⊥)
    → operations_left n new < operations_left n plan
fail_less n plan new cells is fits comes =
    let z = fails_left n plan.banks plan plan.put cells plan.step comes in
    let p = some_left plan.banks plan.places n plan.put cells plan.step fits comes in
    subst (λ (q : FlashPlan). operations_left n q < operations_left n plan) (sym is) (let h : operations_left n (failed_plan plan) < operations_left n plan = omega (arith, z, p) in h)
