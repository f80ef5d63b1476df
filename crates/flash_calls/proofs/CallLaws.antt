-- Numbers that a call leaves are a plan of the same store.
use Rattle.std.proofs.Common.{◌≡◌, ◌⊎◌, inl, inr, Option, Some, None, refl, ℕ, ◌+◌, ◌-◌, ◌*◌, ◌/◌, ◌^◌, ◌<◌, ◌≤◌, subst, sym, ap, ◌∙◌, arith}
use Rattle.std.proofs.Math.Nat.{div-mul-le_self}
use Rattle.std.proofs.lemmas.Option.{none-some}
use Rattle.flash_places.specs.Places.{Flash}
use Rattle.flash_laws.specs.Logs.{CellList}
use Rattle.flash_laws.specs.Lives.{FlashMachine, off}
use Rattle.flash_log.specs.Going.{machine}
use Rattle.flash_lines.specs.Lines.{line_length}
use Rattle.flash_lines.proofs.CallerLemmas.{same_sizes}
use Rattle.flash_plan.specs.declared.plans.WaitingPut.{WaitingPut}
use Rattle.flash_plan.specs.declared.plans.PlanStep.{PlanStep}
use Rattle.flash_plan.specs.declared.plans.PlanStep.TheVariants.{Heading, Copied, Puts, Free, Erasing, Copying, Ready, Clearing, Filling, Ended}
use Rattle.flash_plan.specs.declared.plans.FlashPlan.{FlashPlan}
use Rattle.flash_plan.specs.Plans.{IsPlanOf, IsIdle, IsIdleStep, SameSizes, FindsNothing, operations_left}
use Rattle.flash_plan.specs.Formatting.{FormatsAt}
use Rattle.flash_plan.specs.Standing.{plan_layout, StandsAt}
use Rattle.flash_calls.specs.declared.numbers.FlashNumbers.{FlashNumbers}
use Rattle.flash_calls.specs.Numbers.{plan_in, sizes_in}
use Rattle.flash_calls.specs.Operations.{IsProgramUnit, IsCallOf, FitsPart}
use Rattle.flash_calls.specs.Calls.{Begun, FormatBegun}

-- the numbers of another plan of the same store
pub still_call : (n : ℕ) (old new : FlashNumbers) (plan : FlashPlan) → IsCallOf n old → plan_in new ≡ plan → new.unit ≡ old.unit → new.cells ≡ old.cells
    → IsPlanOf n plan → SameSizes (plan_in old) plan → IsCallOf n new
still_call n old new plan call is unit_is cells_is whole sizes = record {
  unit = subst IsProgramUnit (sym unit_is) call.unit;
  plan = subst (IsPlanOf n) (sym is) whole;
  small = subst (λ places. places * line_length new.unit < 2 ^ 32) (sym (ap (λ (p : FlashPlan). p.places) is ∙ sizes.places))
      (subst (λ unit. old.places * line_length unit < 2 ^ 32) (sym unit_is) call.small);
  cells_is = cells_is ∙ call.cells_is;
}

-- what stands by a plan stands by its numbers
pub stands_in : (n : ℕ) (old new : FlashNumbers) (plan : FlashPlan) (cells scratch : CellList) (at : FlashMachine) (f : Flash)
    → plan_in new ≡ plan → StandsAt (plan_layout (plan_in old) n) plan cells scratch at f
    → StandsAt (plan_layout (plan_in old) n) (plan_in new) cells scratch at f
stands_in n old new plan cells scratch at f is stands =
    subst (λ (p : FlashPlan). StandsAt (plan_layout (plan_in old) n) p cells scratch at f) (sym is) stands

-- the numbers of a new plan, over a part that a store fits
pub call_of_part : (unit banks bank_size places n : ℕ) (new : FlashNumbers) (plan : FlashPlan) → FitsPart unit banks bank_size n
    → bank_size < 2 ^ 32 → places ≡ bank_size / line_length unit → plan_in new ≡ plan → new.unit ≡ unit → new.cells ≡ n → plan.places ≡ places
    → ((m : ℕ) → 0 < m → m < 2 ^ 16 → m + 1 < places → IsPlanOf m plan) → IsCallOf n new
call_of_part unit banks bank_size places n new plan fits small rounded is unit_is cells_is places_is whole =
    let count : new.places ≡ places = ap (λ (p : FlashPlan). p.places) is ∙ places_is in
    record {
      unit = subst IsProgramUnit (sym unit_is) fits.unit_is;
      plan = subst (IsPlanOf n) (sym is)
          (whole n (omega (arith, fits.slots)) (omega (arith, fits.routes)) (omega (arith, fits.room, rounded)));
      small = subst (λ u. new.places * line_length u < 2 ^ 32) (sym unit_is)
          (let within : new.places * line_length unit ≤ bank_size =
          subst (λ k. k * line_length unit ≤ bank_size) (sym (count ∙ rounded)) (div-mul-le_self bank_size (line_length unit)) in
          omega (arith, within, small));
      cells_is = cells_is;
    }

pub has_begun : (unit banks bank_size places n : ℕ) (new : FlashNumbers) (plan : FlashPlan) → FitsPart unit banks bank_size n
    → bank_size < 2 ^ 32 → places ≡ bank_size / line_length unit → plan_in new ≡ plan → new.unit ≡ unit → new.bank_size ≡ bank_size → new.cells ≡ n → new.is_untold ≡ 0
    → plan.banks ≡ banks → plan.places ≡ places
    → ((m : ℕ) → 0 < m → m < 2 ^ 16 → m + 1 < places → IsPlanOf m plan)
    → ((m : ℕ) → operations_left m plan ≤ banks * places + (m + 2))
    → plan.put ≡ None → plan.step ≡ Heading 0 → FindsNothing plan
    → ((m : ℕ) (cells scratch : CellList) (f : Flash) → StandsAt (plan_layout plan m) plan cells scratch (machine f off) f)
    → Begun unit banks bank_size n new
has_begun unit banks bank_size places n new plan fits small rounded is unit_is size_is cells_is tells banks_is places_is whole left none first nothing stands = record {
  fits = fits;
  unit_is = unit_is;
  banks_is = ap (λ (p : FlashPlan). p.banks) is ∙ banks_is;
  places_is = ap (λ (p : FlashPlan). p.places) is ∙ places_is ∙ rounded;
  call = call_of_part unit banks bank_size places n new plan fits small rounded is unit_is cells_is places_is whole;
  sizes_are = same_sizes (sizes_in new) _ unit_is (ap (λ (p : FlashPlan). p.banks) is ∙ banks_is) size_is cells_is;
  tells = tells;
  nothing = subst FindsNothing (sym is) nothing;
  left = subst (λ k. operations_left n (plan_in new) ≤ banks * k + (n + 2)) (sym (ap (λ (p : FlashPlan). p.places) is ∙ places_is))
      (subst (λ (p : FlashPlan). operations_left n p ≤ banks * places + (n + 2)) (sym is) (left n));
  none = ap (λ (p : FlashPlan). p.put) is ∙ none;
  first = ap (λ (p : FlashPlan). p.step) is ∙ first;
  stands = λ cells scratch f. subst (λ (p : FlashPlan). StandsAt (plan_layout p n) p cells scratch (machine f off) f) (sym is) (stands n cells scratch f);
}

pub has_format_begun : (unit banks bank_size places n : ℕ) (new : FlashNumbers) (plan : FlashPlan) → FitsPart unit banks bank_size n
    → bank_size < 2 ^ 32 → places ≡ bank_size / line_length unit → plan_in new ≡ plan → new.unit ≡ unit → new.bank_size ≡ bank_size → new.cells ≡ n → new.is_untold ≡ 0
    → plan.banks ≡ banks → plan.places ≡ places
    → ((m : ℕ) → 0 < m → m < 2 ^ 16 → m + 1 < places → IsPlanOf m plan)
    → ((cells : CellList) (f : Flash) → FormatsAt plan cells f) → plan.step ≡ Clearing (banks - 1)
    → FormatBegun unit banks bank_size n new
has_format_begun unit banks bank_size places n new plan fits small rounded is unit_is size_is cells_is tells banks_is places_is whole formats first = record {
  fits = fits;
  unit_is = unit_is;
  banks_is = ap (λ (p : FlashPlan). p.banks) is ∙ banks_is;
  places_is = ap (λ (p : FlashPlan). p.places) is ∙ places_is ∙ rounded;
  call = call_of_part unit banks bank_size places n new plan fits small rounded is unit_is cells_is places_is whole;
  sizes_are = same_sizes (sizes_in new) _ unit_is (ap (λ (p : FlashPlan). p.banks) is ∙ banks_is) size_is cells_is;
  tells = tells;
  first = ap (λ (p : FlashPlan). p.step) is ∙ first;
  formats = λ cells f. subst (λ (p : FlashPlan). FormatsAt p cells f) (sym is) (formats cells f);
}

-- ---- a plan is idle or not

step_judged : (step : PlanStep) → IsIdleStep step ⊎ (IsIdleStep step → ⊥)
step_judged (Heading bank) = inr (λ i. i)
step_judged (Copied bank generation done) = inr (λ i. i)
step_judged (Puts bank generation place) = inr (λ i. i)
step_judged (Free bank generation next place) = inr (λ i. i)
step_judged (Erasing bank generation) = inr (λ i. i)
step_judged (Copying bank generation done) = inr (λ i. i)
step_judged (Ready bank generation next) = inl tt
step_judged (Clearing bank) = inr (λ i. i)
step_judged (Filling done) = inr (λ i. i)
step_judged (Ended end) = inr (λ i. i)

pub put_judged : (put : Option WaitingPut) → (put ≡ None) ⊎ (put ≡ None → ⊥)
put_judged None = inl refl
put_judged (Some w) = inr (λ e. none-some w (sym e))

pub surely_idle : (plan : FlashPlan) → ((IsIdle plan → ⊥) → ⊥) → IsIdle plan
surely_idle plan h = elim (step_judged plan.step) [
  | inl step ↦ elim (put_judged plan.put) [
    | inl none ↦ record { step = step; none = none }
    | inr some ↦ absurd (h (λ i. some i.none))
  ]
  | inr other ↦ absurd (h (λ i. other i.step))
]
