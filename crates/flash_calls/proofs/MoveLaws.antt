-- A move of the plan, by the bytes that the caller reports.
use Rattle.std.proofs.Common.{◌≡◌, ℕ, suc, Bool, true, false, nat_lt, if◌then◌else◌, Option, Some, None, List, [], length, get_or, take, refl, subst, sym}
use Rattle.std.specs.Prelude.{IfSome}
use Rattle.std.proofs.lemmas.Option.{none-some, same_Some}
use Rattle.flash_places.specs.declared.FlashLine.TheVariants.{Head, Entry}
use Rattle.flash_places.specs.Places.{Flash}
use Rattle.flash_log.specs.Going.{machine}
use Rattle.flash_log.specs.declared.scanning.Best.{Best}
use Rattle.flash_log.specs.declared.scanning.Best.TheVariants.{NoLog}
use Rattle.flash_log.proofs.CallerLemmas.{goes_then}
use Rattle.flash_plan.specs.declared.plans.PlanEnd.{PlanEnd}
use Rattle.flash_plan.specs.declared.plans.FlashPlan.{FlashPlan}
use Rattle.flash_plan.specs.Standing.{MovesBy, PlanMovesOn}
use Rattle.flash_plan.proofs.CallerLemmas.{step_off}
use Rattle.flash_calls.specs.Calls.{other_plan}
use Rattle.flash_plan.specs.declared.operations.Operation.{Operation}
use Rattle.flash_plan.specs.declared.operations.Operation.TheVariants.{Read, Program}
use Rattle.flash_plan.specs.declared.operations.FlashOutcome.{FlashOutcome}
use Rattle.flash_plan.specs.declared.plans.WaitingPut.{WaitingPut}
use Rattle.flash_plan.specs.declared.plans.PlanStep.{PlanStep}
use Rattle.flash_plan.specs.declared.plans.PlanStep.TheVariants.{Heading, Copied, Puts, Free, Erasing, Copying, Ready, Clearing, Filling, Ended}
use Rattle.flash_plan.specs.Performing.{DoesOperation, Performs}
use Rattle.flash_plan.specs.Plans.{IsPlanOf, ReadsAt, HeadsAlone, step_operation, put_at}
use Rattle.flash_plan.specs.Formatting.{FormatStep}
use Rattle.flash_laws.specs.Logs.{CellList}
use Rattle.flash_laws.specs.Lives.{FlashLayout, FlashMachine, next_bank, off}
use Rattle.flash_calls.specs.Operations.{DoesBytes, PerformsBytes, Comes}

-- what holds of the operation that comes next
pub moves_so : (M : FlashOutcome → Type 0) (next : Option Operation) (operation : Operation) (places size part outcome : ℕ)
    (bytes : List ℕ) (came : FlashOutcome) (f g : Flash) → next ≡ Some operation → part ≡ size
    → ((f g : Flash) → DoesBytes operation outcome (take part bytes) f g → DoesOperation operation came f g)
    → Comes operation outcome came
    → IfSome next (λ it. Performs places it came f g → M came)
    → IfSome next (λ it. PerformsBytes places size it outcome bytes f g → (other : FlashOutcome) × (Comes it outcome other × M other))
moves_so M None operation places size part outcome bytes came f g is same does comes steps = tt
moves_so M (Some it) operation places size part outcome bytes came f g is same does comes steps = λ performs.
    let one : it ≡ operation = cc in
    let comes_it : Comes it outcome came = subst (λ o. Comes o outcome came) (sym one) comes in
    let does_it : DoesBytes it outcome (take size bytes) f g → DoesOperation it came f g =
    subst (λ n. DoesBytes it outcome (take n bytes) f g → DoesOperation it came f g) same
    (subst (λ o. DoesBytes o outcome (take part bytes) f g → DoesOperation o came f g) (sym one) (does f g)) in
    (came, (comes_it, steps (record { does = does_it performs.does; behind = performs.behind })))

-- the same of what holds whatever came of it
pub holds_so : (M : Type 0) (next : Option Operation) (operation : Operation) (places size part outcome : ℕ) (bytes : List ℕ)
    (came : FlashOutcome) (f g : Flash) → next ≡ Some operation → part ≡ size
    → ((f g : Flash) → DoesBytes operation outcome (take part bytes) f g → DoesOperation operation came f g)
    → Comes operation outcome came
    → IfSome next (λ it. Performs places it came f g → M)
    → IfSome next (λ it. PerformsBytes places size it outcome bytes f g → M)
holds_so M None operation places size part outcome bytes came f g is same does comes steps = tt
holds_so M (Some it) operation places size part outcome bytes came f g is same does comes steps = λ performs.
    (moves_so (λ _. M) (Some it) operation places size part outcome bytes came f g is same does comes steps performs).1.1

-- with what holds whatever the operation is
pub also_holds : (P : Operation → Type 0) (M N : Type 0) (next : Option Operation) → IfSome next (λ it. P it → M) → N
    → IfSome next (λ it. P it → M × N)
also_holds P M N None steps n = tt
also_holds P M N (Some it) steps n = λ p. (steps p, n)

-- no read comes next of a plan that makes a store, and no put
pub format_keeps : (l : FlashLayout) (cells : CellList) (f : Flash) (put : Option WaitingPut) (step : PlanStep) → FormatStep l cells f step
    → (ReadsAt step → ⊥) × (put_at step put ≡ None)
format_keeps l cells f put (Heading bank) h = absurd h
format_keeps l cells f put (Copied bank generation done) h = absurd h
format_keeps l cells f put (Puts bank generation place) h = absurd h
format_keeps l cells f put (Free bank generation next place) h = absurd h
format_keeps l cells f put (Erasing bank generation) h = absurd h
format_keeps l cells f put (Copying bank generation done) h = absurd h
format_keeps l cells f put (Ready bank generation next) h = absurd h
format_keeps l cells f put (Clearing bank) h = ((λ r. r), refl)
format_keeps l cells f put (Filling done) h = ((λ r. r), refl)
format_keeps l cells f put (Ended end) h = ((λ r. r), refl)

-- ---- a plan that has ended since a head is of another store

copy_is_no_read : (target generation done : ℕ) (cells : CellList) (bank place : ℕ) (b : Bool)
    → (if b then Program target (suc done) (Entry done (get_or cells done [])) else Program target 0 (Head (suc generation))) ≡ Read bank place → ⊥
copy_is_no_read target generation done cells bank place true is = absurd (cc)
copy_is_no_read target generation done cells bank place false is = absurd (cc)

-- a read comes next only while banks are read, and no put is programmed then
pub read_reads : (banks : ℕ) (put : Option WaitingPut) (cells : CellList) (bank place : ℕ) (step : PlanStep)
    → step_operation banks step put cells ≡ Some (Read bank place) → ReadsAt step × (put_at step put ≡ None)
read_reads banks put cells bank place (Heading b) next = (tt, refl)
read_reads banks put cells bank place (Copied b generation done) next = (tt, refl)
read_reads banks put cells bank place (Puts b generation at) next = (tt, refl)
read_reads banks put cells bank place (Free b generation to at) next = (tt, refl)
read_reads banks put cells bank place (Erasing b generation) next = absurd (let e = same_Some _ _ next in cc)
read_reads banks put cells bank place (Copying b generation done) next =
    absurd (copy_is_no_read (next_bank banks b) generation done cells bank place (nat_lt done (length cells)) (same_Some _ _ next))
read_reads banks None cells bank place (Ready b generation to) next = absurd (none-some _ next)
read_reads banks (Some w) cells bank place (Ready b generation to) next = absurd (let e = same_Some _ _ next in cc)
read_reads banks put cells bank place (Clearing b) next = absurd (let e = same_Some _ _ next in cc)
read_reads banks put cells bank place (Filling done) next =
    absurd (copy_is_no_read 0 0 done cells bank place (nat_lt done (length cells)) (same_Some _ _ next))
read_reads banks put cells bank place (Ended end) next = absurd (none-some _ next)

-- it stands where the power would leave it
pub other_moves : (l : FlashLayout) (put : Option WaitingPut) (came : FlashOutcome) (plan : FlashPlan) (cells scratch : CellList)
    (at : FlashMachine) (g : Flash) → put ≡ None → PlanMovesOn l put came plan cells scratch at g
    → PlanMovesOn l put came (other_plan plan) cells scratch at g
other_moves l put came plan cells scratch at g none moved = record {
  at = machine g off;
  moves = subst (λ (p : Option WaitingPut). MovesBy l p came at (machine g off)) (sym none)
      (goes_then l at moved.at (machine g off)
      (subst (λ (p : Option WaitingPut). MovesBy l p came at moved.at) none moved.moves)
      (step_off l plan.best plan.latest cells scratch moved.at g plan.step moved.stands));
  stands = refl;
}

-- the same of what an operation leads to
pub moves_other : (l : FlashLayout) (put : Option WaitingPut) (next : Option Operation) (P : Operation → Type 0) (outcome : ℕ)
    (now new : FlashPlan) (cells scratch : CellList) (at : FlashMachine) (g : Flash) → put ≡ None → new ≡ other_plan now
    → IfSome next (λ it. P it → (came : FlashOutcome) × (Comes it outcome came × PlanMovesOn l put came now cells scratch at g))
    → IfSome next (λ it. P it → (came : FlashOutcome) × (Comes it outcome came × PlanMovesOn l put came new cells scratch at g))
moves_other l put None P outcome now new cells scratch at g none is steps = tt
moves_other l put (Some it) P outcome now new cells scratch at g none is steps = λ p.
    let m = steps p in (
      m.0,
      (
        m.1.0,
        subst (λ (q : FlashPlan). PlanMovesOn l put m.0 q cells scratch at g) (sym is)
            (other_moves l put m.0 now cells scratch at g none m.1.1),
      ),
    )

-- what holds of the operation that comes next
pub some_if : (P : Operation → Type 0) (next : Option Operation) (it : Operation) → next ≡ Some it → P it → IfSome next P
some_if P next it is p = subst (λ (o : Option Operation). IfSome o P) (sym is) p

pub other_is_plan : (n : ℕ) (plan : FlashPlan) → IsPlanOf n plan → IsPlanOf n (other_plan plan)
other_is_plan n plan h = record {
  two = h.two;
  sixteen = h.sixteen;
  some = h.some;
  few = h.few;
  room = h.room;
  step = tt;
  best = h.best;
  cell = h.cell;
}

-- the operation that comes next is of a plan that hasn't ended
pub next_not_ended : (banks : ℕ) (put : Option WaitingPut) (cells : CellList) (it : Operation) (end : PlanEnd) (step : PlanStep)
    → step_operation banks step put cells ≡ Some it → step ≡ Ended end → ⊥
next_not_ended banks put cells it end step next is =
    none-some it (subst (λ (s : PlanStep). step_operation banks s put cells ≡ Some it) is next)

-- if nothing was found, the head of a bank is read next
pub record AtHead (step : PlanStep) (it : Operation) : Type 0 where
  pub bank : ℕ
  pub at : step ≡ Heading bank
  pub reads : it ≡ Read bank 0

pub heads_next : (banks : ℕ) (put : Option WaitingPut) (cells : CellList) (it : Operation) (best : Best) (step : PlanStep) → HeadsAlone best step
    → step_operation banks step put cells ≡ Some it → AtHead step it × (best ≡ NoLog)
heads_next banks put cells it best (Heading bank) h next = (record { bank = bank; at = refl; reads = sym (same_Some _ _ next) }, h)
heads_next banks put cells it best (Copied bank generation done) h next = absurd h
heads_next banks put cells it best (Puts bank generation place) h next = absurd h
heads_next banks put cells it best (Free bank generation to place) h next = absurd h
heads_next banks put cells it best (Erasing bank generation) h next = absurd h
heads_next banks put cells it best (Copying bank generation done) h next = absurd h
heads_next banks put cells it best (Ready bank generation to) h next = absurd h
heads_next banks put cells it best (Clearing bank) h next = absurd h
heads_next banks put cells it best (Filling done) h next = absurd h
heads_next banks put cells it best (Ended end) h next = absurd (none-some it next)
