-- A plan's sizes, and which operation comes next.
use Rattle.std.specs.Prelude.{◌≡◌, ◌+◌, ◌-◌, ◌*◌, ◌^◌, ◌<◌, ◌≤◌, ℕ, suc, Option, Some, None, IfSome, [], length, get_or}
use Rattle.std.specs.Prelude.{nat_eq, nat_lt, if◌then◌else◌, false}
use Rattle.flash_places.specs.declared.FlashLine.TheVariants.{Head, Entry}
use Rattle.flash_laws.specs.Logs.{CellList}
use Rattle.flash_laws.specs.Lives.{next_bank}
use Rattle.flash_log.specs.Taking.{last_generation, generation_in}
use Rattle.flash_log.specs.Scanned.{is_past}
use Rattle.flash_log.specs.declared.scanning.Best.{Best}
use Rattle.flash_log.specs.declared.scanning.Best.TheVariants.{NoLog, One, Tie}
use Rattle.flash_plan.specs.declared.operations.Operation.{Operation}
use Rattle.flash_plan.specs.declared.operations.Operation.TheVariants.{Read, Erase, Program}
use Rattle.flash_plan.specs.declared.operations.FlashOutcome.{FlashOutcome}
use Rattle.flash_plan.specs.declared.operations.FlashOutcome.TheVariants.{Answered, Done, Failed}
use Rattle.flash_plan.specs.declared.plans.PlanEnd.{PlanEnd}
use Rattle.flash_plan.specs.declared.plans.PlanEnd.TheVariants.{NoStore, Exhausted, Formatted, Failed as end_failed}
use Rattle.flash_plan.specs.declared.plans.PlanEnd.TheVariants.{OtherSizes}
use Rattle.flash_plan.specs.declared.plans.WaitingPut.{WaitingPut}
use Rattle.flash_plan.specs.declared.plans.PlanStep.{PlanStep}
use Rattle.flash_plan.specs.declared.plans.PlanStep.TheVariants.{Heading, Copied, Puts, Free, Erasing, Copying, Ready}
use Rattle.flash_plan.specs.declared.plans.PlanStep.TheVariants.{Clearing, Filling, Ended}
use Rattle.flash_plan.specs.declared.plans.FlashPlan.{FlashPlan}

-- the numbers of a step are those of a flash of these sizes and a store of n cells
abbrev pub StepFits : ℕ → ℕ → ℕ → PlanStep → Option WaitingPut → Type 0
StepFits banks places n (Heading bank) put = (bank < banks) × (put ≡ None)
StepFits banks places n (Copied bank generation done) put = (bank < banks) × ((done < n) × (put ≡ None))
StepFits banks places n (Puts bank generation place) put = (bank < banks) × ((place < places) × (put ≡ None))
StepFits banks places n (Free bank generation next place) put = (bank < banks) × ((place < places) × (put ≡ None))
StepFits banks places n (Erasing bank generation) put = (bank < banks) × (generation < last_generation)
StepFits banks places n (Copying bank generation done) put =
    (bank < banks) × ((generation < last_generation) × (done ≤ n))
StepFits banks places n (Ready bank generation next) put = (bank < banks) × IfSome put (λ waiting. next < places)
StepFits banks places n (Clearing bank) put = (bank < banks) × (put ≡ None)
StepFits banks places n (Filling done) put = (done ≤ n) × (put ≡ None)
StepFits banks places n (Ended end) put = Unit {0}

-- the log that was found is one of so many banks
abbrev pub BestFits : ℕ → Best → Type 0
BestFits banks NoLog = Unit {0}
BestFits banks (One log) = log.bank < banks
BestFits banks (Tie generation) = Unit {0}

-- a plan of a store of n cells
pub record IsPlanOf (n : ℕ) (plan : FlashPlan) : Type 0 where
  pub two : 2 ≤ plan.banks
  pub sixteen : plan.banks ≤ 16
  pub some : 0 < n
  pub few : n < 2 ^ 16
  pub room : n + 1 < plan.places
  pub step : StepFits plan.banks plan.places n plan.step plan.put
  pub best : BestFits plan.banks plan.best
  pub cell : IfSome plan.put (λ waiting. waiting.cell < n)

-- what is read after this cell of a copy
abbrev pub step_after : ℕ → ℕ → ℕ → ℕ → PlanStep
step_after bank generation done n =
    if nat_lt (suc done) n then Copied bank generation (suc done) else Puts bank generation (suc n)

-- what is programmed after this line of a copy
abbrev pub step_programmed : ℕ → ℕ → ℕ → ℕ → ℕ → PlanStep
step_programmed banks bank generation done n =
    if nat_lt done n then Copying bank generation (suc done) else Ready (next_bank banks bank) (suc generation) (suc n)

-- what a format does after it erased this bank: bank 0 comes last
abbrev pub step_cleared : ℕ → ℕ → PlanStep
step_cleared banks bank = if nat_eq bank 0 then Filling 0 else Clearing (next_bank banks bank)

-- what it does after this line was programmed
abbrev pub step_filled : ℕ → ℕ → PlanStep
step_filled done n = if nat_lt done n then Filling (suc done) else Ended Formatted

-- the sizes stay
pub record SameSizes (old new : FlashPlan) : Type 0 where
  pub banks : new.banks ≡ old.banks
  pub places : new.places ≡ old.places

-- the sizes stay, and so does a put that waits
pub record KeepsPut (old new : FlashPlan) : Type 0 where
  pub banks : new.banks ≡ old.banks
  pub places : new.places ≡ old.places
  pub put : new.put ≡ old.put

-- nothing comes next, and a put may be taken
abbrev pub IsIdleStep : PlanStep → Type 0
IsIdleStep (Heading bank) = ⊥
IsIdleStep (Copied bank generation done) = ⊥
IsIdleStep (Puts bank generation place) = ⊥
IsIdleStep (Free bank generation next place) = ⊥
IsIdleStep (Erasing bank generation) = ⊥
IsIdleStep (Copying bank generation done) = ⊥
IsIdleStep (Ready bank generation next) = Unit {0}
IsIdleStep (Clearing bank) = ⊥
IsIdleStep (Filling done) = ⊥
IsIdleStep (Ended end) = ⊥

pub record IsIdle (plan : FlashPlan) : Type 0 where
  pub step : IsIdleStep plan.step
  pub none : plan.put ≡ None

-- the bank is full, and its log has the last generation
pub record IsFullAt (places : ℕ) (step : PlanStep) : Type 0 where
  pub bank : ℕ
  pub next : ℕ
  pub is : step ≡ Ready bank last_generation next
  pub full : places ≤ next

-- what is programmed next of a copy in this bank: a cell, or, after the last one, the head
abbrev pub copy_operation : ℕ → ℕ → ℕ → CellList → Operation
copy_operation bank generation done cells =
    if nat_lt done (length cells) then Program bank (suc done) (Entry done (get_or cells done []))
    else Program bank 0 (Head (suc generation))

abbrev pub put_operation : ℕ → ℕ → Option WaitingPut → Option Operation
put_operation bank next None = None
put_operation bank next (Some waiting) = Some (Program bank next (Entry waiting.cell waiting.payload))

abbrev pub step_operation : ℕ → PlanStep → Option WaitingPut → CellList → Option Operation
step_operation banks (Heading bank) put cells = Some (Read bank 0)
step_operation banks (Copied bank generation done) put cells = Some (Read bank (suc done))
step_operation banks (Puts bank generation place) put cells = Some (Read bank place)
step_operation banks (Free bank generation next place) put cells = Some (Read bank place)
step_operation banks (Erasing bank generation) put cells = Some (Erase (next_bank banks bank))
step_operation banks (Copying bank generation done) put cells =
    Some (copy_operation (next_bank banks bank) generation done cells)
step_operation banks (Ready bank generation next) put cells = put_operation bank next put
step_operation banks (Clearing bank) put cells = Some (Erase bank)
step_operation banks (Filling done) put cells = Some (copy_operation 0 0 done cells)
step_operation banks (Ended end) put cells = None

abbrev pub operation_of : FlashPlan → CellList → Option Operation
operation_of plan cells = step_operation plan.banks plan.step plan.put cells

-- no operation comes next
abbrev pub IsAtRest : FlashPlan → CellList → Type 0
IsAtRest plan cells = operation_of plan cells ≡ None

-- the put whose line is programmed next
abbrev pub put_at : PlanStep → Option WaitingPut → Option WaitingPut
put_at (Heading bank) put = None
put_at (Copied bank generation done) put = None
put_at (Puts bank generation place) put = None
put_at (Free bank generation next place) put = None
put_at (Erasing bank generation) put = None
put_at (Copying bank generation done) put = None
put_at (Ready bank generation next) put = put
put_at (Clearing bank) put = None
put_at (Filling done) put = None
put_at (Ended end) put = None

abbrev pub put_in : FlashPlan → Option WaitingPut
put_in plan = put_at plan.step plan.put

-- a plan whose next operation failed
abbrev pub fails_in_step : FlashPlan → Option WaitingPut → PlanStep → FlashPlan
fails_in_step plan put (Heading bank) = record plan { step = Ended end_failed; put = None }
fails_in_step plan put (Copied bank generation done) = record plan { step = Ended end_failed; put = None }
fails_in_step plan put (Puts bank generation place) = record plan { step = Ended end_failed; put = None }
fails_in_step plan put (Free bank generation next place) = record plan { step = Ended end_failed; put = None }
fails_in_step plan put (Erasing bank generation) = record plan { step = Ended end_failed; put = None }
fails_in_step plan put (Copying bank generation done) = record plan { step = Ended end_failed; put = None }
fails_in_step plan put (Clearing bank) = record plan { step = Ended end_failed; put = None }
fails_in_step plan put (Filling done) = record plan { step = Ended end_failed; put = None }
fails_in_step plan None (Ready bank generation next) = plan
fails_in_step plan (Some waiting) (Ready bank generation next) = record plan { step = Ended end_failed; put = None }
fails_in_step plan put (Ended end) = plan

abbrev pub failed_plan : FlashPlan → FlashPlan
failed_plan plan = fails_in_step plan plan.put plan.step

-- an outcome by which an operation has failed
abbrev pub Fails : Operation → FlashOutcome → Type 0
Fails (Read bank place) (Answered answer) = ⊥
Fails (Read bank place) Done = Unit {0}
Fails (Read bank place) Failed = Unit {0}
Fails (Erase bank) (Answered answer) = Unit {0}
Fails (Erase bank) Done = ⊥
Fails (Erase bank) Failed = Unit {0}
Fails (Program bank place line) (Answered answer) = Unit {0}
Fails (Program bank place line) Done = ⊥
Fails (Program bank place line) Failed = Unit {0}

abbrev pub IsFailure : Option Operation → FlashOutcome → Type 0
IsFailure None outcome = ⊥
IsFailure (Some operation) outcome = Fails operation outcome

-- a read comes next
abbrev pub ReadsAt : PlanStep → Type 0
ReadsAt (Heading bank) = Unit {0}
ReadsAt (Copied bank generation done) = Unit {0}
ReadsAt (Puts bank generation place) = Unit {0}
ReadsAt (Free bank generation next place) = Unit {0}
ReadsAt (Erasing bank generation) = ⊥
ReadsAt (Copying bank generation done) = ⊥
ReadsAt (Ready bank generation next) = ⊥
ReadsAt (Clearing bank) = ⊥
ReadsAt (Filling done) = ⊥
ReadsAt (Ended end) = ⊥

-- an erase or a program comes next, or nothing and the plan is idle
abbrev pub ChangesAt : PlanStep → Type 0
ChangesAt (Heading bank) = ⊥
ChangesAt (Copied bank generation done) = ⊥
ChangesAt (Puts bank generation place) = ⊥
ChangesAt (Free bank generation next place) = ⊥
ChangesAt (Erasing bank generation) = Unit {0}
ChangesAt (Copying bank generation done) = Unit {0}
ChangesAt (Ready bank generation next) = Unit {0}
ChangesAt (Clearing bank) = Unit {0}
ChangesAt (Filling done) = Unit {0}
ChangesAt (Ended end) = ⊥

-- a bank is read on behind its head only if its log is no older than the best of the banks before it
abbrev pub SkipsOlder : Best → PlanStep → Type 0
SkipsOlder best (Heading bank) = Unit {0}
SkipsOlder best (Copied bank generation done) = is_past best generation ≡ false
SkipsOlder best (Puts bank generation place) = is_past best generation ≡ false
SkipsOlder best (Free bank generation next place) = is_past best generation ≡ false
SkipsOlder best (Erasing bank generation) = Unit {0}
SkipsOlder best (Copying bank generation done) = Unit {0}
SkipsOlder best (Ready bank generation next) = Unit {0}
SkipsOlder best (Clearing bank) = Unit {0}
SkipsOlder best (Filling done) = Unit {0}
SkipsOlder best (Ended end) = Unit {0}

-- a plan ends so without a log that was found
abbrev pub EndsWithout : PlanEnd → Type 0
EndsWithout NoStore = Unit {0}
EndsWithout Exhausted = ⊥
EndsWithout Formatted = ⊥
EndsWithout end_failed = Unit {0}
EndsWithout OtherSizes = Unit {0}

-- no bank is read on behind its head: the next head is read, and no log was found, or the plan has ended without one
abbrev pub HeadsAlone : Best → PlanStep → Type 0
HeadsAlone best (Heading bank) = best ≡ NoLog
HeadsAlone best (Copied bank generation done) = ⊥
HeadsAlone best (Puts bank generation place) = ⊥
HeadsAlone best (Free bank generation next place) = ⊥
HeadsAlone best (Erasing bank generation) = ⊥
HeadsAlone best (Copying bank generation done) = ⊥
HeadsAlone best (Ready bank generation next) = ⊥
HeadsAlone best (Clearing bank) = ⊥
HeadsAlone best (Filling done) = ⊥
HeadsAlone best (Ended end) = EndsWithout end

-- a start has found nothing so far: no log, and no head that it read on behind
abbrev pub FindsNothing : FlashPlan → Type 0
FindsNothing plan = HeadsAlone plan.best plan.step

-- this outcome of a read is no head
abbrev pub ReadsNoHead : FlashOutcome → Type 0
ReadsNoHead (Answered answer) = generation_in answer ≡ None
ReadsNoHead Done = Unit {0}
ReadsNoHead Failed = Unit {0}

-- a put that waits takes one program
abbrev pub put_left : Option WaitingPut → ℕ
put_left None = 0
put_left (Some waiting) = 1

-- How many operations come at most, until the plan is idle or has ended: what is left to be read, then an erase, a copy
-- of n cells and its head, and then a put that waits.
abbrev pub step_left : ℕ → ℕ → ℕ → Option WaitingPut → PlanStep → ℕ
step_left banks places n put (Heading bank) = (banks - bank) * places + (n + 2)
step_left banks places n put (Copied bank generation done) = (banks - bank) * places - suc done + (n + 2)
step_left banks places n put (Puts bank generation place) = (banks - bank) * places - place + (n + 2)
step_left banks places n put (Free bank generation next place) = (banks - bank) * places - place + (n + 2)
step_left banks places n put (Erasing bank generation) = n + 2 + put_left put
step_left banks places n put (Copying bank generation done) = n + 1 - done + put_left put
step_left banks places n put (Ready bank generation next) = put_left put
step_left banks places n put (Clearing bank) = bank + (n + 2)
step_left banks places n put (Filling done) = n + 1 - done
step_left banks places n put (Ended end) = 0

abbrev pub operations_left : ℕ → FlashPlan → ℕ
operations_left n plan = step_left plan.banks plan.places n plan.put plan.step
