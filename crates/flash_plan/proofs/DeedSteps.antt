-- The deeds of the operations of a plan.
use Rattle.std.proofs.Common.{◌≡◌, ◌≢◌, ◌≤◌, Bool, true, false, ℕ, suc, Option, Some, None, IfSome, List, [], ◌∷◌, ◌++◌, length, take, set, get_or, nat_lt, if◌then◌else◌, refl, sym, ap, subst, ◌∙◌, arith}
use Rattle.std.proofs.lemmas.Bool.{ltb-true, ltb-false}
use Rattle.flash_places.specs.declared.FlashLine.{FlashLine}
use Rattle.flash_places.specs.declared.FlashLine.TheVariants.{Head, Entry}
use Rattle.flash_places.specs.declared.Answer.{Answer}
use Rattle.flash_places.specs.Places.{Flash, SameFlash, CutsErase, Programs, CutsProgram}
use Rattle.flash_laws.specs.Logs.{CellList, copy_lines}
use Rattle.flash_laws.specs.Lives.{FlashLayout, FlashMachine, off, copying, ready, erases, copies, heads, puts, cuts_scan, cuts_erase, cuts_copy, cuts_head, DoesFlashDeed, was_ready, next_bank}
use Rattle.flash_log.specs.declared.scanning.Best.{Best}
use Rattle.flash_log.specs.Going.{machine, Goes}
use Rattle.flash_log.proofs.CallerLemmas.{goes_then, goes_none, goes_one, taken_part}
use Rattle.flash_plan.specs.declared.operations.Operation.{Operation}
use Rattle.flash_plan.specs.declared.operations.Operation.TheVariants.{Read, Erase, Program}
use Rattle.flash_plan.specs.declared.operations.FlashOutcome.{FlashOutcome}
use Rattle.flash_plan.specs.declared.operations.FlashOutcome.TheVariants.{Answered, Done, Failed}
use Rattle.flash_plan.specs.declared.plans.WaitingPut.{WaitingPut}
use Rattle.flash_plan.specs.declared.plans.PlanEnd.{PlanEnd}
use Rattle.flash_plan.specs.declared.plans.PlanEnd.TheVariants.{NoStore, Exhausted, Formatted, Failed as end_failed, OtherSizes}
use Rattle.flash_plan.specs.declared.plans.PlanStep.{PlanStep}
use Rattle.flash_plan.specs.declared.plans.PlanStep.TheVariants.{Heading, Copied, Puts, Free, Erasing, Copying, Ready, Clearing, Filling, Ended}
use Rattle.flash_plan.specs.declared.plans.FlashPlan.{FlashPlan}
use Rattle.flash_plan.specs.Performing.{Performs, DoesOperation, MayBegin}
use Rattle.flash_plan.specs.Plans.{put_operation, step_operation, put_in, put_at, step_after, step_programmed, IsFailure, Fails, failed_plan, fails_in_step, ReadsAt, ChangesAt}
use Rattle.flash_plan.specs.Standing.{BeforeBank, WithinBank, ReadsCopy, ReadsPuts, ReadsFree, IsUpAt, IsCopyingAt, IsReadyAt, StepAt, EndsAt, StandsAt, Reaches, ReachesStep, PlanMovesOn, MovesBy}
use Rattle.flash_plan.proofs.BankSteps.{within_map, copy_whole}
use Rattle.flash_plan.proofs.ScanSteps.{before_off, within_off, same_off}

-- ---- the power may go at any point

ends_off : (l : FlashLayout) (cells : CellList) (at : FlashMachine) (f : Flash) (end : PlanEnd) → EndsAt l cells at f end → Goes l at (machine f off)
ends_off l cells at f NoStore h = subst (λ (m : FlashMachine). Goes l m (machine f off)) (sym h.is)
    (goes_one l cuts_scan _ _ (λ old new e. e, tt) (record { was = refl; read = h.reads.read; looks = h.reads.looks; now = refl }))
ends_off l cells at f Exhausted h = subst (λ (m : FlashMachine). Goes l m (machine f off)) (sym h.is) (same_off l f f _ (λ x k. refl))
ends_off l cells at f Formatted h = absurd h
ends_off l cells at f end_failed h = subst (λ (m : FlashMachine). Goes l m (machine f off)) (sym h) (goes_none l (machine f off))
ends_off l cells at f OtherSizes h = subst (λ (m : FlashMachine). Goes l m (machine f off)) (sym h) (goes_none l (machine f off))

pub step_off : (l : FlashLayout) (best : Best) (latest : List ℕ) (cells scratch : CellList) (at : FlashMachine) (f : Flash) (step : PlanStep)
    → StepAt l best latest cells scratch at f step → Goes l at (machine f off)
step_off l best latest cells scratch at f (Heading bank) h = subst (λ (m : FlashMachine). Goes l m (machine f off)) (sym h.is)
    (before_off l l.cells bank h.first f best latest cells h.reads)
step_off l best latest cells scratch at f (Copied bank generation done) h = subst (λ (m : FlashMachine). Goes l m (machine f off)) (sym h.is)
    (within_off l l.cells bank h.first f best latest cells (ReadsCopy generation done scratch) h.reads (taken_part _ _ (Head generation ∷ copy_lines 0 (take done scratch)) h.reads.reads))
step_off l best latest cells scratch at f (Puts bank generation place) h = subst (λ (m : FlashMachine). Goes l m (machine f off)) (sym h.is)
    (within_off l l.cells bank h.first f best latest cells (ReadsPuts l.cells generation place scratch) h.reads (taken_part _ _ (Head generation ∷ (copy_lines 0 h.reads.reads.first ++ h.reads.reads.puts)) h.reads.reads.taken))
step_off l best latest cells scratch at f (Free bank generation next place) h = subst (λ (m : FlashMachine). Goes l m (machine f off)) (sym h.is)
    (within_off l l.cells bank h.first f best latest cells (ReadsFree l.cells generation next place scratch) h.reads (record { read = h.reads.reads.log.read; looks = h.reads.reads.log.looks }))
step_off l best latest cells scratch at f (Erasing bank generation) h = subst (λ (m : FlashMachine). Goes l m (machine f off)) (sym h.is) (same_off l f f _ (λ x k. refl))
step_off l best latest cells scratch at f (Copying bank generation done) h = subst (λ (m : FlashMachine). Goes l m (machine f off)) (sym h.is) (same_off l f f _ (λ x k. refl))
step_off l best latest cells scratch at f (Ready bank generation next) h = subst (λ (m : FlashMachine). Goes l m (machine f off)) (sym h.is) (same_off l f f _ (λ x k. refl))
step_off l best latest cells scratch at f (Clearing bank) h = absurd h
step_off l best latest cells scratch at f (Filling done) h = absurd h
step_off l best latest cells scratch at f (Ended end) h = ends_off l cells at f end h

-- ---- what is programmed is blank

copy_may : (l : FlashLayout) (bank generation done : ℕ) (cells : CellList) (at : FlashMachine) (f : Flash) → IsCopyingAt l bank generation done cells at f → (b : Bool)
    → MayBegin (if b then Program (next_bank l.banks bank) (suc done) (Entry done (get_or cells done [])) else Program (next_bank l.banks bank) 0 (Head (suc generation))) f
copy_may l bank generation done cells at f h true = h.rest (suc done) (omega arith)
copy_may l bank generation done cells at f h false = h.head

put_may : (bank generation next : ℕ) (cells : CellList) (at : FlashMachine) (f : Flash) (put : Option WaitingPut) → IsReadyAt bank generation next cells at f
    → IfSome (put_operation bank next put) (λ it. MayBegin it f)
put_may bank generation next cells at f None h = tt
put_may bank generation next cells at f (Some put) h = h.rest next (omega arith)

pub step_may : (l : FlashLayout) (best : Best) (latest : List ℕ) (cells scratch : CellList) (at : FlashMachine) (f : Flash) (put : Option WaitingPut) (step : PlanStep)
    → StepAt l best latest cells scratch at f step → IfSome (step_operation l.banks step put cells) (λ it. MayBegin it f)
step_may l best latest cells scratch at f put (Heading bank) h = tt
step_may l best latest cells scratch at f put (Copied bank generation done) h = tt
step_may l best latest cells scratch at f put (Puts bank generation place) h = tt
step_may l best latest cells scratch at f put (Free bank generation next place) h = tt
step_may l best latest cells scratch at f put (Erasing bank generation) h = tt
step_may l best latest cells scratch at f put (Copying bank generation done) h = copy_may l bank generation done cells at f h (nat_lt done (length cells))
step_may l best latest cells scratch at f put (Ready bank generation next) h = put_may bank generation next cells at f put h
step_may l best latest cells scratch at f put (Clearing bank) h = absurd h
step_may l best latest cells scratch at f put (Filling done) h = absurd h
step_may l best latest cells scratch at f put (Ended end) h = tt

-- ---- an operation failed

read_failed : (bank place : ℕ) (outcome : FlashOutcome) (f g : Flash) → DoesOperation (Read bank place) outcome f g → Fails (Read bank place) outcome → SameFlash f g
read_failed bank place (Answered a) f g d x = absurd x
read_failed bank place Done f g d x = d
read_failed bank place Failed f g d x = d

erase_failed : (bank : ℕ) (outcome : FlashOutcome) (f g : Flash) → DoesOperation (Erase bank) outcome f g → Fails (Erase bank) outcome → CutsErase bank f g
erase_failed bank (Answered a) f g d x = d
erase_failed bank Done f g d x = absurd x
erase_failed bank Failed f g d x = d

program_failed : (bank place : ℕ) (line : FlashLine) (outcome : FlashOutcome) (f g : Flash) → DoesOperation (Program bank place line) outcome f g → Fails (Program bank place line) outcome
    → CutsProgram bank place line f g
program_failed bank place line (Answered a) f g d x = d
program_failed bank place line Done f g d x = absurd x
program_failed bank place line Failed f g d x = d

copy_failed : (l : FlashLayout) (bank generation done : ℕ) (cells : CellList) (f g : Flash) (outcome : FlashOutcome) → done ≤ length cells
    → (b : Bool) → nat_lt done (length cells) ≡ b
    → DoesOperation (if b then Program (next_bank l.banks bank) (suc done) (Entry done (get_or cells done [])) else Program (next_bank l.banks bank) 0 (Head (suc generation))) outcome f g
    → Fails (if b then Program (next_bank l.banks bank) (suc done) (Entry done (get_or cells done [])) else Program (next_bank l.banks bank) 0 (Head (suc generation))) outcome
    → Goes l (machine f (copying bank generation cells done)) (machine g off)
copy_failed l bank generation done cells f g outcome most true e d x = goes_one l cuts_copy _ _ (λ old new h. h, tt) (record {
  bank = bank;
  generation = generation;
  cells = cells;
  done = done;
  was = refl;
  below = ltb-true done (length cells) e;
  does = program_failed _ _ _ outcome f g d x;
  now = refl;
})
copy_failed l bank generation done cells f g outcome most false e d x = goes_one l cuts_head _ _ (λ old new h. h, tt) (record {
  bank = bank;
  generation = generation;
  cells = cells;
  was = ap (λ k. copying bank generation cells k) (let all = ltb-false done (length cells) e in let h : done ≡ length cells = omega (arith, all, most) in h);
  does = program_failed _ _ _ outcome f g d x;
  now = refl;
})

put_failed : (l : FlashLayout) (bank generation next : ℕ) (cells : CellList) (f g : Flash) (put : WaitingPut) (outcome : FlashOutcome)
    → DoesOperation (Program bank next (Entry put.cell put.payload)) outcome f g → Fails (Program bank next (Entry put.cell put.payload)) outcome
    → MovesBy l (Some put) outcome (machine f (ready bank generation cells next)) (machine g off)
put_failed l bank generation next cells f g put (Answered a) d x = record { bank = bank; generation = generation; cells = cells; next = next; was = refl; does = d; now = refl }
put_failed l bank generation next cells f g put Done d x = absurd x
put_failed l bank generation next cells f g put Failed d x = record { bank = bank; generation = generation; cells = cells; next = next; was = refl; does = d; now = refl }

module _ (l : FlashLayout) (best : Best) (latest : List ℕ) (cells scratch : CellList) (at : FlashMachine) (f g : Flash) (outcome : FlashOutcome) where
  abbrev pub Broken : Option WaitingPut → PlanStep → Type 0
  Broken put step = IfSome (step_operation l.banks step put cells) (λ it. DoesOperation it outcome f g → Fails it outcome → MovesBy l (put_at step put) outcome at (machine g off))

  read_broken : (step : PlanStep) (bank place : ℕ) → StepAt l best latest cells scratch at f step → DoesOperation (Read bank place) outcome f g → Fails (Read bank place) outcome
      → Goes l at (machine g off)
  read_broken step bank place h d x = goes_then l at (machine f off) (machine g off) (step_off l best latest cells scratch at f step h)
      (same_off l f g off (read_failed bank place outcome f g d x))

  ready_broken : (bank generation next : ℕ) (put : Option WaitingPut) → IsReadyAt bank generation next cells at f → Broken put (Ready bank generation next)
  ready_broken bank generation next None h = tt
  ready_broken bank generation next (Some put) h = λ d x. subst (λ (m : FlashMachine). MovesBy l (Some put) outcome m (machine g off)) (sym h.is)
      (put_failed l bank generation next cells f g put outcome d x)

  pub broken : (put : Option WaitingPut) (step : PlanStep) → StepAt l best latest cells scratch at f step → Broken put step
  broken put (Heading bank) h = λ d x. read_broken (Heading bank) bank 0 h d x
  broken put (Copied bank generation done) h = λ d x. read_broken (Copied bank generation done) bank (suc done) h d x
  broken put (Puts bank generation place) h = λ d x. read_broken (Puts bank generation place) bank place h d x
  broken put (Free bank generation next place) h = λ d x. read_broken (Free bank generation next place) bank place h d x
  broken put (Erasing bank generation) h = λ d x. subst (λ (m : FlashMachine). Goes l m (machine g off)) (sym h.is)
      (goes_one l (cuts_erase (next_bank l.banks bank)) _ _ (λ old new e. e, tt) (record {
        bank = bank;
        generation = generation;
        cells = cells;
        up = h.up;
        is_next = refl;
        does = erase_failed _ outcome f g d x;
        now = refl;
      }))
  broken put (Copying bank generation done) h = λ d x. subst (λ (m : FlashMachine). Goes l m (machine g off)) (sym h.is)
      (copy_failed l bank generation done cells f g outcome h.most (nat_lt done (length cells)) refl d x)
  broken put (Ready bank generation next) h = ready_broken bank generation next put h
  broken put (Clearing bank) h = absurd h
  broken put (Filling done) h = absurd h
  broken put (Ended end) h = tt

-- the plan has ended then
module _ (l : FlashLayout) (plan : FlashPlan) (cells scratch : CellList) (at : FlashMachine) (f g : Flash) (outcome : FlashOutcome) where
  abbrev pub FailsOn : Option WaitingPut → PlanStep → Type 0
  FailsOn put step = IfSome (step_operation l.banks step put cells) (λ it. DoesOperation it outcome f g → Fails it outcome
      → PlanMovesOn l (put_at step put) outcome (fails_in_step plan put step) cells scratch at g)

  fails_ready : (bank generation next : ℕ) (put : Option WaitingPut) → IsReadyAt bank generation next cells at f → FailsOn put (Ready bank generation next)
  fails_ready bank generation next None h = tt
  fails_ready bank generation next (Some put) h = λ d x.
      record { at = machine g off; moves = broken l plan.best plan.latest cells scratch at f g outcome (Some put) (Ready bank generation next) h d x; stands = refl }

  pub fails_on : (put : Option WaitingPut) (step : PlanStep) → StepAt l plan.best plan.latest cells scratch at f step → FailsOn put step
  fails_on put (Heading bank) h = λ d x.
      record { at = machine g off; moves = broken l plan.best plan.latest cells scratch at f g outcome put (Heading bank) h d x; stands = refl }
  fails_on put (Copied bank generation done) h = λ d x.
      record { at = machine g off; moves = broken l plan.best plan.latest cells scratch at f g outcome put (Copied bank generation done) h d x; stands = refl }
  fails_on put (Puts bank generation place) h = λ d x.
      record { at = machine g off; moves = broken l plan.best plan.latest cells scratch at f g outcome put (Puts bank generation place) h d x; stands = refl }
  fails_on put (Free bank generation next place) h = λ d x.
      record { at = machine g off; moves = broken l plan.best plan.latest cells scratch at f g outcome put (Free bank generation next place) h d x; stands = refl }
  fails_on put (Erasing bank generation) h = λ d x.
      record { at = machine g off; moves = broken l plan.best plan.latest cells scratch at f g outcome put (Erasing bank generation) h d x; stands = refl }
  fails_on put (Copying bank generation done) h = λ d x.
      record { at = machine g off; moves = broken l plan.best plan.latest cells scratch at f g outcome put (Copying bank generation done) h d x; stands = refl }
  fails_on put (Ready bank generation next) h = fails_ready bank generation next put h
  fails_on put (Clearing bank) h = absurd h
  fails_on put (Filling done) h = absurd h
  fails_on put (Ended end) h = tt

-- an operation that counts as failed by this outcome, whatever it is
counts_failed : (o : Option Operation) (outcome : FlashOutcome) (places : ℕ) (f g : Flash) (M : Type 0) → IfSome o (λ it. Fails it outcome)
    → IfSome o (λ it. DoesOperation it outcome f g → Fails it outcome → M) → IfSome o (λ it. Performs places it outcome f g → M)
counts_failed None outcome places f g M x h = tt
counts_failed (Some it) outcome places f g M x h = λ p. h p.does x

pub plan_fails : (l : FlashLayout) (plan new : FlashPlan) (cells scratch : CellList) (at : FlashMachine) (f g : Flash) (outcome : FlashOutcome) (places : ℕ)
    → new ≡ failed_plan plan → IfSome (step_operation l.banks plan.step plan.put cells) (λ it. Fails it outcome) → StandsAt l plan cells scratch at f
    → IfSome (step_operation l.banks plan.step plan.put cells) (λ it. Performs places it outcome f g → PlanMovesOn l (put_in plan) outcome new cells scratch at g)
plan_fails l plan new cells scratch at f g outcome places is x h =
    subst (λ (p : FlashPlan). IfSome (step_operation l.banks plan.step plan.put cells) (λ it. Performs places it outcome f g → PlanMovesOn l (put_in plan) outcome p cells scratch at g)) (sym is)
    (counts_failed _ outcome places f g _ x (fails_on l plan cells scratch at f g outcome plan.put plan.step h))

copy_counts : (bank generation done : ℕ) (cells : CellList) (a : Answer) (b : Bool)
    → Fails (if b then Program bank (suc done) (Entry done (get_or cells done [])) else Program bank 0 (Head (suc generation))) (Answered a)
copy_counts bank generation done cells a true = tt
copy_counts bank generation done cells a false = tt

put_counts : (bank next : ℕ) (put : Option WaitingPut) (a : Answer) → IfSome (put_operation bank next put) (λ it. Fails it (Answered a))
put_counts bank next None a = tt
put_counts bank next (Some put) a = tt

-- an answer to what is no read, and a read that is done
pub not_read : (banks : ℕ) (put : Option WaitingPut) (cells : CellList) (a : Answer) (step : PlanStep) → (ReadsAt step → ⊥)
    → IfSome (step_operation banks step put cells) (λ it. Fails it (Answered a))
not_read banks put cells a (Heading bank) other = absurd (other tt)
not_read banks put cells a (Copied bank generation done) other = absurd (other tt)
not_read banks put cells a (Puts bank generation place) other = absurd (other tt)
not_read banks put cells a (Free bank generation next place) other = absurd (other tt)
not_read banks put cells a (Erasing bank generation) other = tt
not_read banks put cells a (Copying bank generation done) other = copy_counts (next_bank banks bank) generation done cells a (nat_lt done (length cells))
not_read banks put cells a (Ready bank generation next) other = put_counts bank next put a
not_read banks put cells a (Clearing bank) other = tt
not_read banks put cells a (Filling done) other = copy_counts 0 0 done cells a (nat_lt done (length cells))
not_read banks put cells a (Ended end) other = tt

pub not_written : (banks : ℕ) (put : Option WaitingPut) (cells : CellList) (step : PlanStep) → (ChangesAt step → ⊥)
    → IfSome (step_operation banks step put cells) (λ it. Fails it Done)
not_written banks put cells (Heading bank) other = tt
not_written banks put cells (Copied bank generation done) other = tt
not_written banks put cells (Puts bank generation place) other = tt
not_written banks put cells (Free bank generation next place) other = tt
not_written banks put cells (Erasing bank generation) other = absurd (other tt)
not_written banks put cells (Copying bank generation done) other = absurd (other tt)
not_written banks put cells (Ready bank generation next) other = absurd (other tt)
not_written banks put cells (Clearing bank) other = absurd (other tt)
not_written banks put cells (Filling done) other = absurd (other tt)
not_written banks put cells (Ended end) other = tt

-- a read that answered, and an erase or a program that is done, haven't failed
pub read_comes : (banks : ℕ) (put : Option WaitingPut) (cells : CellList) (step : PlanStep) → ReadsAt step → step_operation banks step put cells ≡ None → ⊥
read_comes banks put cells (Heading bank) reads e = cc
read_comes banks put cells (Copied bank generation done) reads e = cc
read_comes banks put cells (Puts bank generation place) reads e = cc
read_comes banks put cells (Free bank generation next place) reads e = cc
read_comes banks put cells (Erasing bank generation) reads e = reads
read_comes banks put cells (Copying bank generation done) reads e = reads
read_comes banks put cells (Ready bank generation next) reads e = reads
read_comes banks put cells (Clearing bank) reads e = reads
read_comes banks put cells (Filling done) reads e = reads
read_comes banks put cells (Ended end) reads e = reads

pub read_fine : (banks : ℕ) (put : Option WaitingPut) (cells : CellList) (a : Answer) (step : PlanStep) → ReadsAt step → IsFailure (step_operation banks step put cells) (Answered a) → ⊥
read_fine banks put cells a (Heading bank) reads x = x
read_fine banks put cells a (Copied bank generation done) reads x = x
read_fine banks put cells a (Puts bank generation place) reads x = x
read_fine banks put cells a (Free bank generation next place) reads x = x
read_fine banks put cells a (Erasing bank generation) reads x = reads
read_fine banks put cells a (Copying bank generation done) reads x = reads
read_fine banks put cells a (Ready bank generation next) reads x = reads
read_fine banks put cells a (Clearing bank) reads x = reads
read_fine banks put cells a (Filling done) reads x = reads
read_fine banks put cells a (Ended end) reads x = reads

copy_fine : (bank generation done : ℕ) (cells : CellList) (b : Bool)
    → Fails (if b then Program bank (suc done) (Entry done (get_or cells done [])) else Program bank 0 (Head (suc generation))) Done → ⊥
copy_fine bank generation done cells true x = x
copy_fine bank generation done cells false x = x

put_fine : (bank next : ℕ) (put : Option WaitingPut) → IsFailure (put_operation bank next put) Done → ⊥
put_fine bank next None x = x
put_fine bank next (Some put) x = x

pub written_fine : (banks : ℕ) (put : Option WaitingPut) (cells : CellList) (step : PlanStep) → ChangesAt step → IsFailure (step_operation banks step put cells) Done → ⊥
written_fine banks put cells (Heading bank) writes x = writes
written_fine banks put cells (Copied bank generation done) writes x = writes
written_fine banks put cells (Puts bank generation place) writes x = writes
written_fine banks put cells (Free bank generation next place) writes x = writes
written_fine banks put cells (Erasing bank generation) writes x = x
written_fine banks put cells (Copying bank generation done) writes x = copy_fine (next_bank banks bank) generation done cells (nat_lt done (length cells)) x
written_fine banks put cells (Ready bank generation next) writes x = put_fine bank next put x
written_fine banks put cells (Clearing bank) writes x = x
written_fine banks put cells (Filling done) writes x = copy_fine 0 0 done cells (nat_lt done (length cells)) x
written_fine banks put cells (Ended end) writes x = writes

-- the steps of one kind are these
pub reads_one : (step : PlanStep) → ReadsAt step → ((bank : ℕ) → step ≡ Heading bank → ⊥) → ((bank generation done : ℕ) → step ≡ Copied bank generation done → ⊥)
    → ((bank generation place : ℕ) → step ≡ Puts bank generation place → ⊥) → ((bank generation next place : ℕ) → step ≡ Free bank generation next place → ⊥) → ⊥
reads_one (Heading bank) reads a b c d = a bank refl
reads_one (Copied bank generation done) reads a b c d = b bank generation done refl
reads_one (Puts bank generation place) reads a b c d = c bank generation place refl
reads_one (Free bank generation next place) reads a b c d = d bank generation next place refl
reads_one (Erasing bank generation) reads a b c d = reads
reads_one (Copying bank generation done) reads a b c d = reads
reads_one (Ready bank generation next) reads a b c d = reads
reads_one (Clearing bank) reads a b c d = reads
reads_one (Filling done) reads a b c d = reads
reads_one (Ended end) reads a b c d = reads

pub writes_one : (step : PlanStep) → ChangesAt step → ((bank generation : ℕ) → step ≡ Erasing bank generation → ⊥) → ((bank generation done : ℕ) → step ≡ Copying bank generation done → ⊥)
    → ((bank generation next : ℕ) → step ≡ Ready bank generation next → ⊥) → ((bank : ℕ) → step ≡ Clearing bank → ⊥)
    → ((done : ℕ) → step ≡ Filling done → ⊥) → ⊥
writes_one (Heading bank) writes a b c d e = writes
writes_one (Copied bank generation done) writes a b c d e = writes
writes_one (Puts bank generation place) writes a b c d e = writes
writes_one (Free bank generation next place) writes a b c d e = writes
writes_one (Erasing bank generation) writes a b c d e = a bank generation refl
writes_one (Copying bank generation done) writes a b c d e = b bank generation done refl
writes_one (Ready bank generation next) writes a b c d e = c bank generation next refl
writes_one (Clearing bank) writes a b c d e = d bank refl
writes_one (Filling done) writes a b c d e = e done refl
writes_one (Ended end) writes a b c d e = writes

pub any_failed : (o : Option Operation) → IfSome o (λ it. Fails it Failed)
any_failed None = tt
any_failed (Some (Read bank place)) = tt
any_failed (Some (Erase bank)) = tt
any_failed (Some (Program bank place line)) = tt

pub plan_failed : (l : FlashLayout) (plan new : FlashPlan) (cells scratch : CellList) (at : FlashMachine) (f g : Flash) (places : ℕ) → new ≡ failed_plan plan
    → StandsAt l plan cells scratch at f
    → IfSome (step_operation l.banks plan.step plan.put cells) (λ it. Performs places it Failed f g → PlanMovesOn l (put_in plan) Failed new cells scratch at g)
plan_failed l plan new cells scratch at f g places is h = plan_fails l plan new cells scratch at f g Failed places is (any_failed _) h

-- ---- a read answered

module _ (l : FlashLayout) (best : Best) (latest : List ℕ) (cells scratch now cells_now : CellList) (at : FlashMachine) (f g : Flash) (put : Option WaitingPut) (places : ℕ)
    (a : Answer) (new : FlashPlan) (step : PlanStep) where
  abbrev pub MovesThen : PlanStep → Type 0
  MovesThen s = IfSome (step_operation l.banks s put cells) (λ it. Performs places it (Answered a) f g → PlanMovesOn l (put_at s put) (Answered a) new cells_now now at g)

  moved : (first : Flash) → at ≡ machine first off → Reaches l new cells_now now (machine first off) g → PlanMovesOn l None (Answered a) new cells_now now at g
  moved first is r = record { at = r.at; moves = subst (λ (m : FlashMachine). Goes l m r.at) (sym is) r.goes; stands = r.stands }

  pub head_answered : (bank : ℕ) → step ≡ Heading bank → StepAt l best latest cells scratch at f step
      → ((first : Flash) → BeforeBank l.cells bank first f best latest cells → DoesOperation (Read bank 0) (Answered a) f g → Reaches l new cells_now now (machine first off) g)
      → MovesThen step
  head_answered bank is h reads = subst (λ (s : PlanStep). StepAt l best latest cells scratch at f s → MovesThen s) (sym is)
      (λ s p. moved s.first s.is (reads s.first s.reads p.does)) h

  pub copied_answered : (bank generation done : ℕ) → step ≡ Copied bank generation done → StepAt l best latest cells scratch at f step
      → ((first : Flash) → WithinBank l.cells bank first f best latest cells (ReadsCopy generation done scratch) → DoesOperation (Read bank (suc done)) (Answered a) f g
      → Reaches l new cells_now now (machine first off) g)
      → MovesThen step
  copied_answered bank generation done is h reads = subst (λ (s : PlanStep). StepAt l best latest cells scratch at f s → MovesThen s) (sym is)
      (λ s p. moved s.first s.is (reads s.first s.reads p.does)) h

  pub puts_answered : (bank generation place : ℕ) → step ≡ Puts bank generation place → StepAt l best latest cells scratch at f step
      → ((first : Flash) → WithinBank l.cells bank first f best latest cells (ReadsPuts l.cells generation place scratch) → Performs places (Read bank place) (Answered a) f g
      → Reaches l new cells_now now (machine first off) g)
      → MovesThen step
  puts_answered bank generation place is h reads = subst (λ (s : PlanStep). StepAt l best latest cells scratch at f s → MovesThen s) (sym is)
      (λ s p. moved s.first s.is (reads s.first s.reads p)) h

  pub free_answered : (bank generation next place : ℕ) → step ≡ Free bank generation next place → StepAt l best latest cells scratch at f step
      → ((first : Flash) → WithinBank l.cells bank first f best latest cells (ReadsFree l.cells generation next place scratch) → Performs places (Read bank place) (Answered a) f g
      → Reaches l new cells_now now (machine first off) g)
      → MovesThen step
  free_answered bank generation next place is h reads = subst (λ (s : PlanStep). StepAt l best latest cells scratch at f s → MovesThen s) (sym is)
      (λ s p. moved s.first s.is (reads s.first s.reads p)) h

-- ---- an erase or a program is done

module _ (l : FlashLayout) (best : Best) (latest : List ℕ) (cells scratch : CellList) (at : FlashMachine) (f g : Flash) (put : Option WaitingPut) (places : ℕ)
    (new : FlashPlan) (step : PlanStep) where
  abbrev pub MovesDone : CellList → PlanStep → Type 0
  MovesDone now s = IfSome (step_operation l.banks s put cells) (λ it. Performs places it Done f g → PlanMovesOn l (put_at s put) Done new now scratch at g)

  pub erase_done : (bank generation : ℕ) → step ≡ Erasing bank generation → new.step ≡ Copying bank generation 0 → StepAt l best latest cells scratch at f step → MovesDone cells step
  erase_done bank generation is next h = subst (λ (s : PlanStep). StepAt l best latest cells scratch at f s → MovesDone cells s) (sym is) (λ s p. record {
    at = machine g (copying bank generation cells 0);
    moves = subst (λ (m : FlashMachine). Goes l m (machine g (copying bank generation cells 0))) (sym s.is)
        (goes_one l (erases (next_bank l.banks bank)) _ _ (λ old now e. e, tt) (record {
          bank = bank;
          generation = generation;
          cells = cells;
          up = s.up;
          is_next = refl;
          does = p.does;
          now = refl;
        }));
    stands = subst (λ (t : PlanStep). StepAt l new.best new.latest cells scratch (machine g (copying bank generation cells 0)) g t) (sym next) (record {
      is = refl;
      most = omega arith;
      head = p.does.erased 0;
      rest = λ k from. p.does.erased k;
    });
  }) h

  copy_moves : (bank generation done : ℕ) → IsCopyingAt l bank generation done cells at f → (b : Bool) → nat_lt done (length cells) ≡ b
      → new.step ≡ (if b then Copying bank generation (suc done) else Ready (next_bank l.banks bank) (suc generation) (suc (length cells)))
      → DoesOperation (if b then Program (next_bank l.banks bank) (suc done) (Entry done (get_or cells done [])) else Program (next_bank l.banks bank) 0 (Head (suc generation))) Done f g
      → PlanMovesOn l None Done new cells scratch at g
  copy_moves bank generation done s true below next does = record {
    at = machine g (copying bank generation cells (suc done));
    moves = subst (λ (m : FlashMachine). Goes l m (machine g (copying bank generation cells (suc done)))) (sym s.is)
        (goes_one l copies _ _ (λ old now e. e, tt) (record {
          bank = bank;
          generation = generation;
          cells = cells;
          done = done;
          was = refl;
          below = ltb-true done (length cells) below;
          does = does;
          now = refl;
        }));
    stands = subst (λ (t : PlanStep). StepAt l new.best new.latest cells scratch (machine g (copying bank generation cells (suc done))) g t) (sym next) (record {
      is = refl;
      most = (let h = ltb-true done (length cells) below in omega (arith, h));
      head = does.same.rest 0 (λ e. absurd (omega arith)) ∙ s.head;
      rest = λ k from. does.same.rest k (λ e. absurd (omega (arith, from, e))) ∙ s.rest k (omega (arith, from));
    });
  }
  copy_moves bank generation done s false below next does =
      let all = ltb-false done (length cells) below in
      let whole : done ≡ length cells = omega (arith, all, s.most) in
      record {
        at = machine g (ready (next_bank l.banks bank) (suc generation) cells (suc (length cells)));
        moves = subst (λ (m : FlashMachine). Goes l m (machine g (ready (next_bank l.banks bank) (suc generation) cells (suc (length cells))))) (sym s.is)
            (goes_one l heads _ _ (λ old now e. e, tt) (record {
              bank = bank;
              generation = generation;
              cells = cells;
              was = ap (λ k. copying bank generation cells k) whole;
              does = does;
              now = refl;
            }));
        stands = subst (λ (t : PlanStep). StepAt l new.best new.latest cells scratch (machine g (ready (next_bank l.banks bank) (suc generation) cells (suc (length cells)))) g t) (sym next) (record {
          is = refl;
          rest = λ k from. does.same.rest k (λ e. absurd (omega (arith, from, e))) ∙ s.rest k (omega (arith, from, whole));
        });
      }

  pub copy_done : (bank generation done n : ℕ) → step ≡ Copying bank generation done → n ≡ length cells → new.step ≡ step_programmed l.banks bank generation done n
      → StepAt l best latest cells scratch at f step → MovesDone cells step
  copy_done bank generation done n is all next h = subst (λ (s : PlanStep). StepAt l best latest cells scratch at f s → MovesDone cells s) (sym is) (λ s p.
      copy_moves bank generation done s (nat_lt done (length cells)) refl (next ∙ ap (λ k. step_programmed l.banks bank generation done k) all) p.does) h

  put_moves : (bank generation next later : ℕ) (waiting : WaitingPut) → IsReadyAt bank generation next cells at f → later ≡ suc next → new.step ≡ Ready bank generation later
      → (now : CellList) → now ≡ set cells waiting.cell waiting.payload → Programs bank next (Entry waiting.cell waiting.payload) f g
      → PlanMovesOn l (Some waiting) Done new now scratch at g
  put_moves bank generation next later waiting s more is now made does = record {
    at = machine g (ready bank generation now later);
    moves = subst (λ (m : FlashMachine). DoesFlashDeed l (puts waiting.cell waiting.payload) m (machine g (ready bank generation now later))) (sym s.is) (record {
      bank = bank;
      generation = generation;
      cells = cells;
      next = next;
      was = refl;
      does = does;
      now = ap (λ (z : CellList). ready bank generation z later) made ∙ ap (λ k. ready bank generation (set cells waiting.cell waiting.payload) k) more;
    });
    stands = subst (λ (t : PlanStep). StepAt l new.best new.latest now scratch (machine g (ready bank generation now later)) g t) (sym is) (record {
      is = refl;
      rest = λ k from. does.same.rest k (λ e. absurd (omega (arith, from, e, more))) ∙ s.rest k (omega (arith, from, more));
    });
  }

  pub put_done : (bank generation next later : ℕ) (waiting : WaitingPut) → step ≡ Ready bank generation next → put ≡ Some waiting → later ≡ suc next → new.step ≡ Ready bank generation later
      → (now : CellList) → now ≡ set cells waiting.cell waiting.payload → StepAt l best latest cells scratch at f step → MovesDone now step
  put_done bank generation next later waiting is waits more next_is now made h =
      subst (λ (s : PlanStep). StepAt l best latest cells scratch at f s → MovesDone now s) (sym is) (λ s.
      subst (λ (w : Option WaitingPut). IfSome (put_operation bank next w) (λ it. Performs places it Done f g → PlanMovesOn l w Done new now scratch at g)) (sym waits)
      (λ p. put_moves bank generation next later waiting s more next_is now made p.does)) h

-- ---- the same point, named otherwise

pub reached : (banks banks' n n' : ℕ) (best : Best) (latest : List ℕ) (cells scratch : CellList) (from : FlashMachine) (f : Flash) (step : PlanStep) → banks' ≡ banks → n' ≡ n
    → ReachesStep (record { banks = banks'; cells = n' }) best latest cells scratch from f step
    → ReachesStep (record { banks = banks; cells = n }) best latest cells scratch from f step
reached banks banks' n n' best latest cells scratch from f step e h r =
    subst (λ z. ReachesStep (record { banks = z; cells = n }) best latest cells scratch from f step) e
    (subst (λ z. ReachesStep (record { banks = banks'; cells = z }) best latest cells scratch from f step) h r)

pub reached_plan : (l : FlashLayout) (plan : FlashPlan) (cells scratch : CellList) (from : FlashMachine) (f : Flash) (step : PlanStep) → plan.step ≡ step
    → ReachesStep l plan.best plan.latest cells scratch from f step → Reaches l plan cells scratch from f
reached_plan l plan cells scratch from f step is r = record {
  at = r.at;
  goes = r.goes;
  stands = subst (λ (s : PlanStep). StepAt l plan.best plan.latest cells scratch r.at f s) (sym is) r.stands;
}

pub here_reached : (l : FlashLayout) (plan : FlashPlan) (cells scratch : CellList) (first f : Flash) (step : PlanStep) → plan.step ≡ step
    → StepAt l plan.best plan.latest cells scratch (machine first off) f step → Reaches l plan cells scratch (machine first off) f
here_reached l plan cells scratch first f step is h = reached_plan l plan cells scratch (machine first off) f step is
    (record { at = machine first off; goes = goes_none l (machine first off); stands = h })

-- a put is taken while the store is ready
pub put_taken : (l : FlashLayout) (best : Best) (latest : List ℕ) (cells scratch : CellList) (at : FlashMachine) (f : Flash) (step : PlanStep) (bank generation next : ℕ)
    → step ≡ Ready bank generation next → StepAt l best latest cells scratch at f step → IsUpAt bank generation cells at f
put_taken l best latest cells scratch at f step bank generation next is h =
    let s = subst (λ (t : PlanStep). StepAt l best latest cells scratch at f t) is h in
    record { stage = ready bank generation cells next; is = s.is; up = was_ready next refl }

-- after a cell of a copy that was read
after_copied : (l : FlashLayout) (bank generation done : ℕ) (first g : Flash) (plan : FlashPlan) (cells scratch : CellList) → length scratch ≡ l.cells
    → WithinBank l.cells bank first g plan.best plan.latest cells (ReadsCopy generation (suc done) scratch) → (b : Bool) → nat_lt (suc done) l.cells ≡ b
    → plan.step ≡ (if b then Copied bank generation (suc done) else Puts bank generation (suc l.cells))
    → Reaches l plan cells scratch (machine first off) g
after_copied l bank generation done first g plan cells scratch sized w true below is =
    here_reached l plan cells scratch first g (Copied bank generation (suc done)) is (record { first = first; is = refl; reads = w })
after_copied l bank generation done first g plan cells scratch sized w false below is =
    here_reached l plan cells scratch first g (Puts bank generation (suc l.cells)) is (record {
      first = first;
      is = refl;
      reads = within_map l.cells bank first g plan.best plan.latest cells (ReadsCopy generation (suc done) scratch) (ReadsPuts l.cells generation (suc l.cells) scratch) w
          (copy_whole l.cells generation (suc done) scratch (w.before bank) (g bank) sized (ltb-false (suc done) l.cells below) w.reads);
    })

pub cell_read : (l : FlashLayout) (bank generation done n : ℕ) (first g : Flash) (plan : FlashPlan) (cells scratch : CellList) → length scratch ≡ l.cells → n ≡ l.cells
    → plan.step ≡ step_after bank generation done n
    → WithinBank l.cells bank first g plan.best plan.latest cells (ReadsCopy generation (suc done) scratch)
    → Reaches l plan cells scratch (machine first off) g
cell_read l bank generation done n first g plan cells scratch sized all is w =
    after_copied l bank generation done first g plan cells scratch sized w (nat_lt (suc done) l.cells) refl (is ∙ ap (λ k. step_after bank generation done k) all)

-- ---- what becomes of a put that waits

ready_waits : (plan : FlashPlan) (outcome : FlashOutcome) (bank generation next : ℕ) (put : Option WaitingPut) → put ≡ plan.put
    → IfSome (put_operation bank next put) (λ it. Fails it outcome) → (IsFailure (put_operation bank next put) outcome → ⊥)
    → (fails_in_step plan put (Ready bank generation next)).put ≡ plan.put
ready_waits plan outcome bank generation next None is x no_failure = refl
ready_waits plan outcome bank generation next (Some put) is x no_failure = absurd (no_failure x)

pub fail_waits : (banks : ℕ) (plan : FlashPlan) (outcome : FlashOutcome) (put : Option WaitingPut) (cells : CellList) (step : PlanStep) → put ≡ plan.put
    → IfSome (step_operation banks step put cells) (λ it. Fails it outcome) → (IsFailure (step_operation banks step put cells) outcome → ⊥)
    → (fails_in_step plan put step).put ≡ plan.put
fail_waits banks plan outcome put cells (Heading bank) is x no_failure = absurd (no_failure x)
fail_waits banks plan outcome put cells (Copied bank generation done) is x no_failure = absurd (no_failure x)
fail_waits banks plan outcome put cells (Puts bank generation place) is x no_failure = absurd (no_failure x)
fail_waits banks plan outcome put cells (Free bank generation next place) is x no_failure = absurd (no_failure x)
fail_waits banks plan outcome put cells (Erasing bank generation) is x no_failure = absurd (no_failure x)
fail_waits banks plan outcome put cells (Copying bank generation done) is x no_failure = absurd (no_failure x)
fail_waits banks plan outcome put cells (Ready bank generation next) is x no_failure = ready_waits plan outcome bank generation next put is x no_failure
fail_waits banks plan outcome put cells (Clearing bank) is x no_failure = absurd (no_failure x)
fail_waits banks plan outcome put cells (Filling done) is x no_failure = absurd (no_failure x)
fail_waits banks plan outcome put cells (Ended end) is x no_failure = refl

ready_taken : (plan : FlashPlan) (bank generation next : ℕ) (put : Option WaitingPut) → put ≢ None → (fails_in_step plan put (Ready bank generation next)).put ≡ None
ready_taken plan bank generation next None ne = absurd (ne refl)
ready_taken plan bank generation next (Some put) ne = refl

pub fail_taken : (plan : FlashPlan) (put : Option WaitingPut) (step : PlanStep) → put_at step put ≢ None → (fails_in_step plan put step).put ≡ None
fail_taken plan put (Heading bank) ne = absurd (ne refl)
fail_taken plan put (Copied bank generation done) ne = absurd (ne refl)
fail_taken plan put (Puts bank generation place) ne = absurd (ne refl)
fail_taken plan put (Free bank generation next place) ne = absurd (ne refl)
fail_taken plan put (Erasing bank generation) ne = absurd (ne refl)
fail_taken plan put (Copying bank generation done) ne = absurd (ne refl)
fail_taken plan put (Ready bank generation next) ne = ready_taken plan bank generation next put ne
fail_taken plan put (Clearing bank) ne = absurd (ne refl)
fail_taken plan put (Filling done) ne = absurd (ne refl)
fail_taken plan put (Ended end) ne = absurd (ne refl)

pub read_puts_none : (put : Option WaitingPut) (step : PlanStep) → ReadsAt step → put_at step put ≡ None
read_puts_none put (Heading bank) reads = refl
read_puts_none put (Copied bank generation done) reads = refl
read_puts_none put (Puts bank generation place) reads = refl
read_puts_none put (Free bank generation next place) reads = refl
read_puts_none put (Erasing bank generation) reads = absurd reads
read_puts_none put (Copying bank generation done) reads = absurd reads
read_puts_none put (Ready bank generation next) reads = absurd reads
read_puts_none put (Clearing bank) reads = absurd reads
read_puts_none put (Filling done) reads = absurd reads
read_puts_none put (Ended end) reads = absurd reads
