-- The put waits.
use Rattle.std.proofs.Common.{◌≡◌, ◌+◌, ◌<◌, ◌≤◌, ℕ, Err, length, subst, sym, ap, ◌∙◌, arith}
use Rattle.flash_plan.specs.declared.plans.FlashPlan.{FlashPlan}
use Rattle.flash_plan.specs.declared.plans.PlanStep.TheVariants.{Erasing, Ready}
use Rattle.flash_plan.specs.declared.plans.PlanPutFault.TheVariants.{NotIdle, Exhausted as put_exhausted}
use Rattle.flash_plan.specs.Plans.{IsIdle, IsFullAt, SameSizes, operations_left}
use Rattle.flash_plan.specs.Standing.{plan_layout, StandsAt}
use Rattle.flash_lines.specs.declared.sizes.FlashSizes.{FlashSizes}
use Rattle.flash_lines.proofs.CallerLemmas.{same_sizes}
use Rattle.flash_calls.specs.Numbers.{plan_in, sizes_in}
use Rattle.flash_calls.proofs.CallLaws.{still_call, stands_in, surely_idle}
use Rattle.flash_calls.proofs.calls.put.Goals as goal

pub returns-in-Ok-clause-answer : goal.returns-in-Ok-clause-answer
returns-in-Ok-clause-answer c =
    let n : ℕ = length c.args.cells.now in
    let old = c.args.flash.now in
    let new = c.numbers_of.result in
    let now : FlashPlan = c.put.new.self in
    let was : c.plan_of-plan.result ≡ plan_in old = c.plan_of-plan.ensures in
    let is : plan_in new ≡ now = c.numbers_of.ensures.plan in
    let unit_is : new.unit ≡ old.unit = c.numbers_of.ensures.unit ∙ ap (λ (s : FlashSizes). s.unit) c.sizes_of.ensures in
    let cells_is : new.cells ≡ old.cells = c.numbers_of.ensures.cells ∙ ap (λ (s : FlashSizes). s.cells) c.sizes_of.ensures in
    let idle : IsIdle (plan_in old) = subst (λ (p : FlashPlan). IsIdle p) was
    (surely_idle c.plan_of-plan.result (λ busy. let e : c.put.result ≡ Err NotIdle = c.put.ensures.not_idle.1 busy in absurd (cc))) in
    let sizes : SameSizes (plan_in old) now = subst (λ (p : FlashPlan). SameSizes p now) was c.put.ensures.sizes in
    record {
      was = c.in-Some.ensures.1;
      below = (let b = c.if-cell-cells.false in omega (arith, b));
      idle = idle;
      room = λ full.
          let at : IsIdle c.plan_of-plan.result × IsFullAt c.plan_of-plan.result.places c.plan_of-plan.result.step =
          subst (λ (p : FlashPlan). IsIdle p × IsFullAt p.places p.step) (sym was) (idle, full) in
          let e : c.put.result ≡ Err put_exhausted = c.put.ensures.exhausted.1 at in absurd (cc);
      call = still_call n old new now c.in-Some.ensures.1 is unit_is cells_is c.put.ensures.plan sizes;
      unit_is = unit_is;
      banks_is = ap (λ (p : FlashPlan). p.banks) is ∙ sizes.banks;
      places_is = ap (λ (p : FlashPlan). p.places) is ∙ sizes.places;
      sizes_are = same_sizes (sizes_in new) (sizes_in old) unit_is
          (ap (λ (p : FlashPlan). p.banks) is ∙ sizes.banks)
          (c.numbers_of.ensures.bank_size ∙ ap (λ (s : FlashSizes). s.bank_size) c.sizes_of.ensures) cells_is;
      tells = c.numbers_of.ensures.untold;
      waits = ap (λ (p : FlashPlan). p.put) is ∙ c.in-Ok.ensures.waits;
      programs = λ bank generation next at below.
          ap (λ (p : FlashPlan). p.step) is
          ∙ subst (λ (p : FlashPlan). (b g k : ℕ) → p.step ≡ Ready b g k → k < p.places → now.step ≡ p.step) was c.put.ensures.room bank generation next at below;
      copies = λ bank generation next at above.
          ap (λ (p : FlashPlan). p.step) is
          ∙ subst (λ (p : FlashPlan). (b g k : ℕ) → p.step ≡ Ready b g k → p.places ≤ k → now.step ≡ Erasing b g) was c.in-Ok.ensures.full bank generation next at above;
      left = subst (λ (p : FlashPlan). operations_left n p ≤ n + 3) (sym is) c.in-Ok.ensures.left;
      stands = λ scratch at f stands.
          stands_in n old new now c.args.cells.now scratch at f is
          (subst
          (λ (p : FlashPlan). StandsAt (plan_layout p n) p c.args.cells.now scratch at f
          → StandsAt (plan_layout p n) now c.args.cells.now scratch at f)
          was (c.in-Ok.ensures.stands scratch at f) stands);
    }
