-- What a step of a start notes of the answers.
use Rattle.std.proofs.Common.{◌≡◌, ◌≢◌, ◌<◌, ◌≤◌, inl, inr, Bool, true, false, ℕ, suc, Option, Some, None, IfSome, List, [], length, get_or, nat_lt, nat_eq, if◌then◌else◌, refl, sym, ap, subst, ◌∙◌, arith}
use Rattle.std.proofs.lemmas.Bool.{cases_Bool, cases_eq}
use Rattle.flash_places.specs.declared.FlashLine.TheVariants.{Head, Entry}
use Rattle.flash_places.specs.declared.Answer.{Answer}
use Rattle.flash_places.specs.declared.Answer.TheVariants.{Blank}
use Rattle.flash_laws.specs.Logs.{CellList}
use Rattle.flash_laws.specs.Lives.{next_bank}
use Rattle.flash_log.specs.declared.reading.LogEnd.{LogEnd}
use Rattle.flash_log.specs.declared.scanning.FoundLog.{FoundLog}
use Rattle.flash_log.specs.declared.scanning.Best.{Best}
use Rattle.flash_log.specs.declared.scanning.Best.TheVariants.{NoLog, One, Tie}
use Rattle.flash_log.specs.Taking.{last_generation, latest_head}
use Rattle.flash_log.specs.Scanned.{judged, found_at}
use Rattle.flash_plan.specs.declared.operations.Operation.{Operation}
use Rattle.flash_plan.specs.declared.operations.Operation.TheVariants.{Erase, Program}
use Rattle.flash_plan.specs.declared.operations.FlashOutcome.{FlashOutcome}
use Rattle.flash_plan.specs.declared.operations.FlashOutcome.TheVariants.{Answered}
use Rattle.flash_plan.specs.declared.plans.WaitingPut.{WaitingPut}
use Rattle.flash_plan.specs.declared.plans.PlanEnd.TheVariants.{Exhausted}
use Rattle.flash_plan.specs.declared.plans.PlanStep.{PlanStep}
use Rattle.flash_plan.specs.declared.plans.PlanStep.TheVariants.{Heading, Copied, Puts, Free, Erasing, Copying, Ready, Clearing, Filling, Ended}
use Rattle.flash_plan.specs.declared.plans.FlashPlan.{FlashPlan}
use Rattle.flash_plan.specs.Plans.{step_after, step_programmed, step_operation, put_operation, failed_plan, fails_in_step}
use Rattle.flash_plan.specs.Telling.{PlaceAnswers, AnswersSo, MayResume, NotAllBlank, LogTold, BestTold, StartTold, MustErase, StepTold, IsTold}

-- ---- the best of some banks and one more

module _ (told : PlaceAnswers) (places bank : ℕ) (log : LogEnd) (new : log.is_free ≡ false → NotAllBlank told places bank log.next) where
  told_one : (old : FoundLog) → BestTold told places (One old) → (less same : Bool)
      → BestTold told places (if less then One (found_at bank log) else (if same then Tie log.generation else One old))
  told_one old h true same = new
  told_one old h false true = tt
  told_one old h false false = h

  told_tie : (t : ℕ) (less : Bool) → BestTold told places (if less then One (found_at bank log) else Tie t)
  told_tie t true = new
  told_tie t false = tt

  told_judged : (best : Best) → BestTold told places best → BestTold told places (judged best bank log)
  told_judged NoLog h = new
  told_judged (One old) h = told_one old h (nat_lt old.generation log.generation) (nat_eq old.generation log.generation)
  told_judged (Tie t) h = told_tie t (nat_lt t log.generation)

pub best_told : (told : PlaceAnswers) (places bank count : ℕ) (best better : Best) (latest : List ℕ) (answer : Option LogEnd) (log : LogEnd) → answer ≡ Some log → better ≡ judged best bank log
    → LogTold told places bank answer → StartTold told places count best latest → StartTold told places count better latest
best_told told places bank count best better latest answer log some is l s = record {
  log = subst (λ (b : Best). BestTold told places b) (sym is)
      (told_judged told places bank log (subst (λ (o : Option LogEnd). LogTold told places bank o) some l) best s.log);
  heads = s.heads;
}

-- ---- a head was read

pub head_told : (told : PlaceAnswers) (places bank : ℕ) (best : Best) (latest later : List ℕ) (answer : Answer) → answer ≡ told bank 0
    → get_or later bank 0 ≡ latest_head answer → ((x : ℕ) → x ≢ bank → get_or later x 0 ≡ get_or latest x 0)
    → StartTold told places bank best latest → StartTold told places (suc bank) best later
head_told told places bank best latest later answer is here rest s = record {
  log = s.log;
  heads = λ x below. elim (cases_eq x bank) [
    | inl e ↦ subst (λ z. get_or later z 0 ≡ latest_head (told z 0)) (sym e) (here ∙ ap (λ (a : Answer). latest_head a) is)
    | inr ne ↦ rest x ne ∙ s.heads x (omega (arith, below, ne))
  ];
}

-- ---- a place was read

cell_tells : (told : PlaceAnswers) (banks places n bank generation done : ℕ) (put : Option WaitingPut) (best : Best) (latest : List ℕ) (b : Bool)
    → StartTold told places (suc bank) best latest
    → StepTold told banks places put best latest (if b then Copied bank generation (suc done) else Puts bank generation (suc n))
cell_tells told banks places n bank generation done put best latest true s = s
cell_tells told banks places n bank generation done put best latest false s = s

pub cell_told : (told : PlaceAnswers) (banks places n bank generation done : ℕ) (put : Option WaitingPut) (best : Best) (latest : List ℕ) (step : PlanStep) → step ≡ step_after bank generation done n
    → StartTold told places (suc bank) best latest → StepTold told banks places put best latest step
cell_told told banks places n bank generation done put best latest step is s =
    subst (λ (t : PlanStep). StepTold told banks places put best latest t) (sym is) (cell_tells told banks places n bank generation done put best latest (nat_lt (suc done) n) s)

-- the place isn't blank, and so the bank isn't free
pub not_free_told : (told : PlaceAnswers) (places bank generation next place : ℕ) (answer : Answer) (log : LogEnd) → log ≡ record { generation = generation; next = next; is_free = false }
    → next ≤ place → place < places → answer ≡ told bank place → answer ≢ Blank → LogTold told places bank (Some log)
not_free_told told places bank generation next place answer log is from below said other free = record {
  place = place;
  from = (let e : log.next ≡ next = ap (λ (l : LogEnd). l.next) is in omega (arith, e, from));
  below = below;
  other = λ blank. other (said ∙ blank);
}

-- ---- all banks were read

module _ (told : PlaceAnswers) (banks places count : ℕ) (log : FoundLog) (latest : List ℕ) (s : StartTold told places count (One log) latest) (all : count ≡ banks) (inside : next_bank banks log.bank < banks)
    (goes : Bool) (goes_on : log.is_free ≡ true → get_or latest (next_bank banks log.bank) 0 < last_generation → get_or latest (next_bank banks log.bank) 0 < log.generation → goes ≡ true) (stops : goes ≡ false) where
  head_is : get_or latest (next_bank banks log.bank) 0 ≡ latest_head (told (next_bank banks log.bank) 0)
  head_is = s.heads (next_bank banks log.bank) (omega (arith, all, inside))

  pub must_erase : MayResume told banks places log → ⊥
  must_erase m = elim (cases_Bool log.is_free) [
    | inl free ↦ absurd (let e : goes ≡ true = goes_on free (subst (λ z. z < last_generation) (sym head_is) m.was_read) (subst (λ z. z < log.generation) (sym head_is) m.older) in cc)
    | inr taken ↦ (let w = s.log taken in w.other (m.free w.place w.from w.below))
  ]

  pub renewed_told : (put : Option WaitingPut) (step : PlanStep) → (log.generation ≡ last_generation → step ≡ Ended Exhausted) → (log.generation ≢ last_generation → step ≡ Erasing log.bank log.generation)
      → StepTold told banks places put (One log) latest step
  renewed_told put step last copied = elim (cases_eq log.generation last_generation) [
    | inl is ↦ subst (λ (t : PlanStep). StepTold told banks places put (One log) latest t) (sym (last is)) tt
    | inr ne ↦ subst (λ (t : PlanStep). StepTold told banks places put (One log) latest t) (sym (copied ne)) (λ none. record { log = log; is = refl; here = refl; must = must_erase })
  ]

-- ---- what is no read

fails_told : (told : PlaceAnswers) (plan : FlashPlan) (put : Option WaitingPut) (step : PlanStep) → StepTold told plan.banks plan.places plan.put plan.best plan.latest plan.step → IsTold told (fails_in_step plan put step)
fails_told told plan put (Heading bank) h = tt
fails_told told plan put (Copied bank generation done) h = tt
fails_told told plan put (Puts bank generation place) h = tt
fails_told told plan put (Free bank generation next place) h = tt
fails_told told plan put (Erasing bank generation) h = tt
fails_told told plan put (Copying bank generation done) h = tt
fails_told told plan put (Clearing bank) h = tt
fails_told told plan put (Filling done) h = tt
fails_told told plan None (Ready bank generation next) h = h
fails_told told plan (Some waiting) (Ready bank generation next) h = tt
fails_told told plan put (Ended end) h = h

pub failed_told : (told : PlaceAnswers) (plan new : FlashPlan) → new ≡ failed_plan plan → IsTold told plan → IsTold told new
failed_told told plan new is h = subst (λ (p : FlashPlan). IsTold told p) (sym is) (fails_told told plan plan.put plan.step h)

programmed_tells : (told : PlaceAnswers) (banks places n bank generation done : ℕ) (put : Option WaitingPut) (best : Best) (latest : List ℕ) (b : Bool)
    → StepTold told banks places put best latest (if b then Copying bank generation (suc done) else Ready (next_bank banks bank) (suc generation) (suc n))
programmed_tells told banks places n bank generation done put best latest true = tt
programmed_tells told banks places n bank generation done put best latest false = tt

pub programmed_told : (told : PlaceAnswers) (banks places n bank generation done : ℕ) (put : Option WaitingPut) (best : Best) (latest : List ℕ) (step : PlanStep) → step ≡ step_programmed banks bank generation done n
    → StepTold told banks places put best latest step
programmed_told told banks places n bank generation done put best latest step is =
    subst (λ (t : PlanStep). StepTold told banks places put best latest t) (sym is) (programmed_tells told banks places n bank generation done put best latest (nat_lt done n))

-- whatever holds of every operation holds of the next one
pub if_comes : (M : Type 0) (told : PlaceAnswers) (next : Option Operation) (outcome : FlashOutcome) → M → IfSome next (λ it. AnswersSo told it outcome → M)
if_comes M told None outcome m = tt
if_comes M told (Some it) outcome m = λ answers. m

-- ---- a read was answered, by the step

answer_same : (a b : Answer) → Answered a ≡ Answered b → a ≡ b
answer_same a b e = let h : a ≡ b = cc in h

module _ (told : PlaceAnswers) (banks places : ℕ) (put : Option WaitingPut) (best : Best) (latest : List ℕ) (cells : CellList) (answer : Answer) (new : FlashPlan) (step : PlanStep)
    (h : StepTold told banks places put best latest step) where
  abbrev Goal : PlanStep → Type 0
  Goal s = StepTold told banks places put best latest s → IfSome (step_operation banks s put cells) (λ it. AnswersSo told it (Answered answer) → IsTold told new)

  pub head_tells : (bank : ℕ) → step ≡ Heading bank → (StartTold told places bank best latest → answer ≡ told bank 0 → IsTold told new)
      → IfSome (step_operation banks step put cells) (λ it. AnswersSo told it (Answered answer) → IsTold told new)
  head_tells bank is next = subst (λ (s : PlanStep). Goal s) (sym is) (λ t e. next t (answer_same answer (told bank 0) e)) h

  pub copied_tells : (bank generation done : ℕ) → step ≡ Copied bank generation done → (StartTold told places (suc bank) best latest → IsTold told new)
      → IfSome (step_operation banks step put cells) (λ it. AnswersSo told it (Answered answer) → IsTold told new)
  copied_tells bank generation done is next = subst (λ (s : PlanStep). Goal s) (sym is) (λ t e. next t) h

  pub puts_tell : (bank generation place : ℕ) → step ≡ Puts bank generation place → (StartTold told places (suc bank) best latest → answer ≡ told bank place → IsTold told new)
      → IfSome (step_operation banks step put cells) (λ it. AnswersSo told it (Answered answer) → IsTold told new)
  puts_tell bank generation place is next = subst (λ (s : PlanStep). Goal s) (sym is) (λ t e. next t (answer_same answer (told bank place) e)) h

  pub free_tells : (bank generation next_place place : ℕ) → step ≡ Free bank generation next_place place
      → (StartTold told places (suc bank) best latest → next_place ≤ place → answer ≡ told bank place → IsTold told new)
      → IfSome (step_operation banks step put cells) (λ it. AnswersSo told it (Answered answer) → IsTold told new)
  free_tells bank generation next_place place is next = subst (λ (s : PlanStep). Goal s) (sym is) (λ t e. next t.0 t.1 (answer_same answer (told bank place) e)) h

-- ---- an erase that comes next

copy_erases_not : (bank generation done target : ℕ) (cells : CellList) (b : Bool)
    → Some (if b then Program bank (suc done) (Entry done (get_or cells done [])) else Program bank 0 (Head (suc generation))) ≡ Some (Erase target) → ⊥
copy_erases_not bank generation done target cells true e = absurd (cc)
copy_erases_not bank generation done target cells false e = absurd (cc)

put_erases_not : (bank next target : ℕ) (put : Option WaitingPut) → put_operation bank next put ≡ Some (Erase target) → ⊥
put_erases_not bank next target None e = absurd (cc)
put_erases_not bank next target (Some waiting) e = absurd (cc)

pub erase_told : (told : PlaceAnswers) (banks places : ℕ) (put : Option WaitingPut) (best : Best) (latest : List ℕ) (cells : CellList) (target : ℕ) (step : PlanStep) → put ≡ None
    → StepTold told banks places put best latest step → step_operation banks step put cells ≡ Some (Erase target)
    → (bank : ℕ) × ((target ≡ next_bank banks bank) × MustErase told banks places bank best)
erase_told told banks places put best latest cells target (Heading bank) none h e = absurd (cc)
erase_told told banks places put best latest cells target (Copied bank generation done) none h e = absurd (cc)
erase_told told banks places put best latest cells target (Puts bank generation place) none h e = absurd (cc)
erase_told told banks places put best latest cells target (Free bank generation next place) none h e = absurd (cc)
erase_told told banks places put best latest cells target (Erasing bank generation) none h e =
    (bank, ((let same : next_bank banks bank ≡ target = cc in sym same), h none))
erase_told told banks places put best latest cells target (Copying bank generation done) none h e =
    absurd (copy_erases_not (next_bank banks bank) generation done target cells (nat_lt done (length cells)) e)
erase_told told banks places put best latest cells target (Ready bank generation next) none h e = absurd (put_erases_not bank next target put e)
erase_told told banks places put best latest cells target (Clearing bank) none h e = absurd h
erase_told told banks places put best latest cells target (Filling done) none h e = absurd h
erase_told told banks places put best latest cells target (Ended end) none h e = absurd (cc)
