-- What the outcome of an operation does to a put that waits.
use Rattle.std.proofs.Common.{◌≡◌, ◌≢◌, ◌⊎◌, ◌↔◌, inl, inr, ℕ, nat_eq, if◌then◌else◌, Bool, true, false, Option, Some, None, IfSome, refl, sym, ap, subst, ◌∙◌, arith}
use Rattle.std.proofs.lemmas.Bool.{cases_Bool, cases_lt, eqb-true, eqb-false}
use Rattle.std.proofs.lemmas.Option.{none-some}
use Rattle.flash_laws.specs.Logs.{CellList}
use Rattle.flash_plan.specs.declared.operations.Operation.{Operation}
use Rattle.flash_plan.specs.declared.operations.Operation.TheVariants.{Read, Erase, Program}
use Rattle.flash_plan.specs.declared.operations.FlashOutcome.{FlashOutcome}
use Rattle.flash_plan.specs.declared.operations.FlashOutcome.TheVariants.{Answered, Done, Failed}
use Rattle.flash_plan.specs.declared.plans.PlanEnd.TheVariants.{Failed as end_failed}
use Rattle.flash_plan.specs.declared.plans.WaitingPut.{WaitingPut}
use Rattle.flash_plan.specs.declared.plans.PlanStep.{PlanStep}
use Rattle.flash_plan.specs.declared.plans.PlanStep.TheVariants.{Heading, Copied, Puts, Free, Erasing, Copying, Ready, Clearing, Filling, Ended}
use Rattle.flash_plan.specs.declared.plans.FlashPlan.{FlashPlan}
use Rattle.flash_plan.specs.Plans.{Fails, IsFailure, failed_plan, fails_in_step, step_operation, operation_of, put_in}
use Rattle.flash_calls.specs.Operations.{Comes, FailsBy}
use Rattle.flash_calls.specs.Calls.{PutMoves, HasFailed}
use Rattle.flash_calls.specs.CallLives.{program_outcome}
use Rattle.flash_calls.proofs.LifeLaws.{put_came}

fails_judged : (operation : Operation) (outcome : FlashOutcome) → Fails operation outcome ⊎ (Fails operation outcome → ⊥)
fails_judged (Read bank place) (Answered answer) = inr (λ f. f)
fails_judged (Read bank place) Done = inl tt
fails_judged (Read bank place) Failed = inl tt
fails_judged (Erase bank) (Answered answer) = inl tt
fails_judged (Erase bank) Done = inr (λ f. f)
fails_judged (Erase bank) Failed = inl tt
fails_judged (Program bank place line) (Answered answer) = inl tt
fails_judged (Program bank place line) Done = inr (λ f. f)
fails_judged (Program bank place line) Failed = inl tt

failed_fails : (operation : Operation) → Fails operation Failed
failed_fails (Read bank place) = tt
failed_fails (Erase bank) = tt
failed_fails (Program bank place line) = tt

-- a plan whose next operation failed has failed
failed_ends : (banks : ℕ) (plan : FlashPlan) (cells : CellList) (operation : Operation) (put : Option WaitingPut) (step : PlanStep)
    → step_operation banks step put cells ≡ Some operation → HasFailed (fails_in_step plan put step)
failed_ends banks plan cells operation put (Heading bank) next = (refl, refl)
failed_ends banks plan cells operation put (Copied bank generation done) next = (refl, refl)
failed_ends banks plan cells operation put (Puts bank generation place) next = (refl, refl)
failed_ends banks plan cells operation put (Free bank generation to place) next = (refl, refl)
failed_ends banks plan cells operation put (Erasing bank generation) next = (refl, refl)
failed_ends banks plan cells operation put (Copying bank generation done) next = (refl, refl)
failed_ends banks plan cells operation None (Ready bank generation to) next = absurd (none-some operation next)
failed_ends banks plan cells operation (Some w) (Ready bank generation to) next = (refl, refl)
failed_ends banks plan cells operation put (Clearing bank) next = (refl, refl)
failed_ends banks plan cells operation put (Filling done) next = (refl, refl)
failed_ends banks plan cells operation put (Ended end) next = absurd (none-some operation next)

-- the number says so exactly if the plan takes it so
fails_by_number : (b : Bool) (operation : Operation) (outcome : ℕ) (came : FlashOutcome) → nat_eq outcome 0 ≡ b
    → came ≡ (if b then Done else Failed) → (Fails operation Done → ⊥) → Fails operation came ↔ (outcome ≢ 0)
fails_by_number true operation outcome came is comes well =
    ((λ f. absurd (well (subst (Fails operation) comes f))), (λ other. absurd (other (eqb-true outcome 0 is))))
fails_by_number false operation outcome came is comes well =
    ((λ f. eqb-false outcome 0 is), (λ other. subst (Fails operation) (sym comes) (failed_fails operation)))

fails_so : (operation : Operation) (outcome : ℕ) (came : FlashOutcome) → Comes operation outcome came
    → Fails operation came ↔ FailsBy operation outcome
fails_so (Read bank place) outcome came comes = (
  (λ f. elim (cases_lt 2 outcome) [
    | inl over ↦ over
    | inr most ↦ absurd (comes.1.1 (omega (arith, most)) f)
  ]),
  (λ over. subst (Fails (Read bank place)) (sym (comes.0 over)) tt),
)
fails_so (Erase bank) outcome came comes = fails_by_number (nat_eq outcome 0) (Erase bank) outcome came refl comes (λ f. f)
fails_so (Program bank place line) outcome came comes =
    fails_by_number (nat_eq outcome 0) (Program bank place line) outcome came refl comes (λ f. f)

-- a plan whose next operation comes has not failed
not_failed : (banks : ℕ) (put : Option WaitingPut) (cells : CellList) (operation : Operation) (step : PlanStep)
    → step_operation banks step put cells ≡ Some operation → step ≡ Ended end_failed → ⊥
not_failed banks put cells operation step next is =
    none-some operation (subst (λ (s : PlanStep). step_operation banks s put cells ≡ Some operation) is next)

pub some_put : (o : Option WaitingPut) → o ≢ None → (w : WaitingPut) × (o ≡ Some w)
some_put None h = absurd (h refl)
some_put (Some w) h = (w, refl)

program_failed : (outcome : ℕ) → outcome ≢ 0 → program_outcome outcome ≡ Failed
program_failed outcome wrong = elim (cases_Bool (nat_eq outcome 0)) [
  | inl is ↦ absurd (wrong (eqb-true outcome 0 is))
  | inr ne ↦ ap (λ (b : Bool). if b then Done else Failed) ne
]

module _ (old new : FlashPlan) (cells : CellList) (operation : Operation) (outcome : ℕ) (came : FlashOutcome)
    (next : operation_of old cells ≡ Some operation) (comes : Comes operation outcome came)
    (fails : IsFailure (operation_of old cells) came → new ≡ failed_plan old)
    (waits : put_in old ≡ None → (IsFailure (operation_of old cells) came → ⊥) → new.put ≡ old.put)
    (taken : put_in old ≢ None → new.put ≡ None) where
  failed_by : Fails operation came → HasFailed new
  failed_by f =
      let is = fails (subst (λ (o : Option Operation). IsFailure o came) (sym next) f) in
      subst HasFailed (sym is) (failed_ends old.banks old cells operation old.put old.step next)

  put_failed : put_in old ≢ None → outcome ≢ 0 → HasFailed new
  put_failed some wrong =
      let w = some_put (put_in old) some in
      let is = put_came old.banks outcome old.put cells w.0 operation came old.step w.1 next comes in
      failed_by (subst (Fails operation) (sym (is ∙ program_failed outcome wrong)) (failed_fails operation))

  pub fails_exactly : (new.step ≡ Ended end_failed → (old.step ≡ Ended end_failed) ⊎ IsFailure (operation_of old cells) came)
      → IfSome (operation_of old cells) (λ it. (new.step ≡ Ended end_failed) ↔ FailsBy it outcome)
  fails_exactly only =
      let so = fails_so operation outcome came comes in
      subst (λ (o : Option Operation). IfSome o (λ it. (new.step ≡ Ended end_failed) ↔ FailsBy it outcome)) (sym next) (
        (λ ended. so.0 (elim (only ended) [
          | inl before ↦ absurd (not_failed old.banks old.put cells operation old.step next before)
          | inr f ↦ subst (λ (o : Option Operation). IsFailure o came) next f
        ])),
        (λ by. (failed_by (so.1 by)).0),
      )

  pub put_moves : PutMoves outcome old new
  put_moves = record {
    waits = λ none. elim (fails_judged operation came) [
      | inl f ↦ inr (failed_by f)
      | inr nf ↦ inl (waits none (λ f. nf (subst (λ (o : Option Operation). IsFailure o came) next f)))
    ];
    programmed = taken;
    failed = put_failed;
  }
