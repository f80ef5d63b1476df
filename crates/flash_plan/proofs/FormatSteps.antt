-- The steps of a format.
use Rattle.std.proofs.Common.{◌≡◌, ◌<◌, ◌≤◌, inl, inr, Bool, true, false, ℕ, suc, Option, Some, None, IfSome, [], length, get_or, nat_eq, nat_lt, if◌then◌else◌, refl, sym, ap, subst, ◌∙◌, arith}
use Rattle.std.proofs.lemmas.Bool.{cases_eq, ltb-true, ltb-false, eqb-true}
use Rattle.flash_places.specs.declared.FlashLine.TheVariants.{Head, Entry}
use Rattle.flash_places.specs.Places.{Flash, Erases, blank_place, whole_place}
use Rattle.flash_laws.specs.Logs.{CellList}
use Rattle.flash_laws.specs.Lives.{FlashLayout, next_bank}
use Rattle.flash_laws.proofs.CallerLemmas.{next_cases}
use Rattle.flash_plan.specs.declared.operations.Operation.{Operation}
use Rattle.flash_plan.specs.declared.operations.Operation.TheVariants.{Program}
use Rattle.flash_plan.specs.declared.operations.FlashOutcome.{FlashOutcome}
use Rattle.flash_plan.specs.declared.operations.FlashOutcome.TheVariants.{Done}
use Rattle.flash_plan.specs.declared.plans.WaitingPut.{WaitingPut}
use Rattle.flash_plan.specs.declared.plans.PlanEnd.TheVariants.{Formatted}
use Rattle.flash_plan.specs.declared.plans.PlanStep.{PlanStep}
use Rattle.flash_plan.specs.declared.plans.PlanStep.TheVariants.{Heading, Copied, Puts, Free, Erasing, Copying, Ready, Clearing, Filling, Ended}
use Rattle.flash_plan.specs.declared.plans.FlashPlan.{FlashPlan}
use Rattle.flash_plan.specs.Performing.{Performs, DoesOperation, MayBegin}
use Rattle.flash_plan.specs.Plans.{step_operation, operation_of, failed_plan, fails_in_step, Fails, ReadsAt, step_cleared, step_filled}
use Rattle.flash_plan.specs.Formatting.{ClearedTo, FilledTo, FormatStep, FormatsAt}

-- what is programmed is blank
fill_may : (l : FlashLayout) (done : ℕ) (cells : CellList) (f : Flash) → FilledTo l done cells f → (b : Bool)
    → MayBegin (if b then Program 0 (suc done) (Entry done (get_or cells done [])) else Program 0 0 (Head 1)) f
fill_may l done cells f h true = h.rest (suc done) (omega arith)
fill_may l done cells f h false = h.head

pub format_may : (l : FlashLayout) (cells : CellList) (f : Flash) (banks : ℕ) (put : Option WaitingPut) (step : PlanStep) → FormatStep l cells f step
    → IfSome (step_operation banks step put cells) (λ it. MayBegin it f)
format_may l cells f banks put (Heading bank) h = absurd h
format_may l cells f banks put (Copied bank generation done) h = absurd h
format_may l cells f banks put (Puts bank generation place) h = absurd h
format_may l cells f banks put (Free bank generation next place) h = absurd h
format_may l cells f banks put (Erasing bank generation) h = absurd h
format_may l cells f banks put (Copying bank generation done) h = absurd h
format_may l cells f banks put (Ready bank generation next) h = absurd h
format_may l cells f banks put (Clearing bank) h = tt
format_may l cells f banks put (Filling done) h = fill_may l done cells f h (nat_lt done (length cells))
format_may l cells f banks put (Ended end) h = tt

-- a format reads nothing
pub format_reads : (l : FlashLayout) (cells : CellList) (f : Flash) (step : PlanStep) → ReadsAt step → FormatStep l cells f step → ⊥
format_reads l cells f (Heading bank) reads h = h
format_reads l cells f (Copied bank generation done) reads h = h
format_reads l cells f (Puts bank generation place) reads h = h
format_reads l cells f (Free bank generation next place) reads h = h
format_reads l cells f (Erasing bank generation) reads h = reads
format_reads l cells f (Copying bank generation done) reads h = reads
format_reads l cells f (Ready bank generation next) reads h = reads
format_reads l cells f (Clearing bank) reads h = reads
format_reads l cells f (Filling done) reads h = reads
format_reads l cells f (Ended end) reads h = reads

-- an operation of a format failed
module _ (l : FlashLayout) (plan : FlashPlan) (cells : CellList) (f g : Flash) (outcome : FlashOutcome) (banks : ℕ) where
  abbrev FormatFails : Option WaitingPut → PlanStep → Type 0
  FormatFails put step = IfSome (step_operation banks step put cells) (λ it. DoesOperation it outcome f g → Fails it outcome → FormatStep l cells g (fails_in_step plan put step).step)

  fails_format : (put : Option WaitingPut) (step : PlanStep) → FormatStep l cells f step → FormatFails put step
  fails_format put (Heading bank) h = absurd h
  fails_format put (Copied bank generation done) h = absurd h
  fails_format put (Puts bank generation place) h = absurd h
  fails_format put (Free bank generation next place) h = absurd h
  fails_format put (Erasing bank generation) h = absurd h
  fails_format put (Copying bank generation done) h = absurd h
  fails_format put (Ready bank generation next) h = absurd h
  fails_format put (Clearing bank) h = λ d x. tt
  fails_format put (Filling done) h = λ d x. tt
  fails_format put (Ended end) h = tt

counts_format : (o : Option Operation) (outcome : FlashOutcome) (places : ℕ) (f g : Flash) (M : Type 0) → IfSome o (λ it. Fails it outcome)
    → IfSome o (λ it. DoesOperation it outcome f g → Fails it outcome → M) → IfSome o (λ it. Performs places it outcome f g → M)
counts_format None outcome places f g M x h = tt
counts_format (Some it) outcome places f g M x h = λ p. h p.does x

same_banks : (plan : FlashPlan) (put : Option WaitingPut) (step : PlanStep) → (fails_in_step plan put step).banks ≡ plan.banks
same_banks plan put (Heading bank) = refl
same_banks plan put (Copied bank generation done) = refl
same_banks plan put (Puts bank generation place) = refl
same_banks plan put (Free bank generation next place) = refl
same_banks plan put (Erasing bank generation) = refl
same_banks plan put (Copying bank generation done) = refl
same_banks plan None (Ready bank generation next) = refl
same_banks plan (Some waiting) (Ready bank generation next) = refl
same_banks plan put (Clearing bank) = refl
same_banks plan put (Filling done) = refl
same_banks plan put (Ended end) = refl

pub plan_format_fails : (plan new : FlashPlan) (cells now : CellList) (f g : Flash) (outcome : FlashOutcome) (places : ℕ) → now ≡ cells → new ≡ failed_plan plan
    → IfSome (operation_of plan cells) (λ it. Fails it outcome) → FormatsAt plan cells f
    → IfSome (operation_of plan cells) (λ it. Performs places it outcome f g → FormatsAt new now g)
plan_format_fails plan new cells now f g outcome places same is x h =
    subst (λ (c : CellList). IfSome (operation_of plan cells) (λ it. Performs places it outcome f g → FormatsAt new c g)) (sym same)
    (subst (λ (p : FlashPlan). IfSome (operation_of plan cells) (λ it. Performs places it outcome f g → FormatsAt p cells g)) (sym is)
    (counts_format (operation_of plan cells) outcome places f g (FormatsAt (failed_plan plan) cells g) x
    (subst (λ b. IfSome (operation_of plan cells) (λ it. DoesOperation it outcome f g → Fails it outcome → FormatStep (record { banks = b; cells = length cells }) cells g (failed_plan plan).step))
    (sym (same_banks plan plan.put plan.step))
    (fails_format (record { banks = plan.banks; cells = length cells }) plan cells f g outcome plan.banks plan.put plan.step h))))

-- ---- an operation of a format is done

clear_moves : (l : FlashLayout) (bank : ℕ) (cells : CellList) (f g : Flash) → bank < l.banks → ClearedTo l.banks bank f → Erases bank f g → (b : Bool) → nat_eq bank 0 ≡ b
    → FormatStep l cells g (if b then Filling 0 else Clearing (next_bank l.banks bank))
clear_moves l bank cells f g inside cleared does true is =
    let zero_is = eqb-true bank 0 is in
    let erased : (k : ℕ) → g 0 k ≡ blank_place = λ k. subst (λ y. g y k ≡ blank_place) zero_is (does.erased k) in
    record {
      spare = λ x above below. does.others x (λ e. absurd (omega (arith, e, above, zero_is))) 0 ∙ cleared x (omega (arith, above, zero_is)) below;
      most = omega arith;
      head = erased 0;
      copied = λ i below. absurd (omega (arith, below));
      rest = λ k from. erased k;
    }
clear_moves l bank cells f g inside cleared does false is = λ x above below. elim (cases_eq x bank) [
  | inl here ↦ subst (λ y. g y 0 ≡ blank_place) (sym here) (does.erased 0)
  | inr there ↦ does.others x there 0 ∙ cleared x (elim (next_cases l.banks bank) [
    | inl at_first ↦ (let e = at_first.1 in omega (arith, e, above, below))
    | inr further ↦ (let e = further.1 in omega (arith, e, above, there))
  ]) below
]

fill_moves : (l : FlashLayout) (done : ℕ) (cells : CellList) (f g : Flash) → 2 ≤ l.banks → length cells ≡ l.cells → FilledTo l done cells f → (b : Bool) → nat_lt done (length cells) ≡ b
    → DoesOperation (if b then Program 0 (suc done) (Entry done (get_or cells done [])) else Program 0 0 (Head 1)) Done f g
    → FormatStep l cells g (if b then Filling (suc done) else Ended Formatted)
fill_moves l done cells f g two sized h true below does = record {
  spare = λ x above less. does.same.others x (λ e. absurd (omega (arith, e, above))) 0 ∙ h.spare x above less;
  most = (let b = ltb-true done (length cells) below in omega (arith, b));
  head = does.same.rest 0 (λ e. absurd (omega arith)) ∙ h.head;
  copied = λ i less. elim (cases_eq i done) [
    | inl here ↦ subst (λ k. g 0 (suc k) ≡ whole_place (Entry k (get_or cells k []))) (sym here) does.now
    | inr there ↦ does.same.rest (suc i) (λ e. absurd (omega (arith, e, there))) ∙ h.copied i (omega (arith, less, there))
  ];
  rest = λ k from. does.same.rest k (λ e. absurd (omega (arith, e, from))) ∙ h.rest k (omega (arith, from));
}
fill_moves l done cells f g two sized h false below does =
    let all = ltb-false done (length cells) below in
    let whole : done ≡ length cells = omega (arith, all, h.most) in
    record {
      two = two;
      count = sized;
      generation = 1;
      head = does.now;
      copied = λ i less. does.same.rest (suc i) (λ e. absurd (omega arith)) ∙ h.copied i (omega (arith, less, whole, sized));
      ends = does.same.rest (suc l.cells) (λ e. absurd (omega arith)) ∙ h.rest (suc l.cells) (omega (arith, whole, sized));
      spare = λ x inside ne. does.same.others x ne 0 ∙ h.spare x (omega (arith, ne)) inside;
      is_off = refl;
    }

module _ (l : FlashLayout) (cells : CellList) (f g : Flash) (banks : ℕ) (put : Option WaitingPut) (places : ℕ) (step now : PlanStep) where
  pub clear_done : (bank : ℕ) → step ≡ Clearing bank → now ≡ step_cleared l.banks bank → bank < l.banks → FormatStep l cells f step
      → IfSome (step_operation banks step put cells) (λ it. Performs places it Done f g → FormatStep l cells g now)
  clear_done bank is next inside h = subst (λ (s : PlanStep). FormatStep l cells f s → IfSome (step_operation banks s put cells) (λ it. Performs places it Done f g → FormatStep l cells g now)) (sym is)
      (λ c p. subst (λ (s : PlanStep). FormatStep l cells g s) (sym next) (clear_moves l bank cells f g inside c p.does (nat_eq bank 0) refl)) h

  pub fill_done : (done n : ℕ) → step ≡ Filling done → n ≡ length cells → now ≡ step_filled done n → 2 ≤ l.banks → length cells ≡ l.cells → FormatStep l cells f step
      → IfSome (step_operation banks step put cells) (λ it. Performs places it Done f g → FormatStep l cells g now)
  fill_done done n is all next two sized h = subst (λ (s : PlanStep). FormatStep l cells f s → IfSome (step_operation banks s put cells) (λ it. Performs places it Done f g → FormatStep l cells g now)) (sym is)
      (λ c p. subst (λ (s : PlanStep). FormatStep l cells g s) (sym (next ∙ ap (λ k. step_filled done k) all)) (fill_moves l done cells f g two sized c (nat_lt done (length cells)) refl p.does)) h

  -- no other step is one of a format
  pub erase_formats : (bank generation : ℕ) (M : Type 0) → step ≡ Erasing bank generation → FormatStep l cells f step → M
  erase_formats bank generation M is h = absurd (subst (λ (s : PlanStep). FormatStep l cells f s) is h)

  pub copy_formats : (bank generation done : ℕ) (M : Type 0) → step ≡ Copying bank generation done → FormatStep l cells f step → M
  copy_formats bank generation done M is h = absurd (subst (λ (s : PlanStep). FormatStep l cells f s) is h)

  pub ready_formats : (bank generation next : ℕ) (M : Type 0) → step ≡ Ready bank generation next → FormatStep l cells f step → M
  ready_formats bank generation next M is h = absurd (subst (λ (s : PlanStep). FormatStep l cells f s) is h)
