-- Where a plan stands: at which point of the machine, when the flash is so.
use Rattle.std.specs.Prelude.{◌≡◌, ◌+◌, ◌<◌, ◌≤◌, ℕ, suc, true, Option, Some, None, IfSome, List, ◌∷◌, ◌++◌, length}
use Rattle.std.specs.Prelude.{take}
use Rattle.flash_places.specs.declared.FlashLine.{FlashLine}
use Rattle.flash_places.specs.declared.FlashLine.TheVariants.{Head}
use Rattle.flash_places.specs.Places.{FlashPlace, Flash, SameOthers, blank_place}
use Rattle.flash_laws.specs.Logs.{CellList, copy_lines, after_lines}
use Rattle.flash_laws.specs.Lives.{FlashLayout, FlashMachine, FlashStage, off, found, copying, ready, puts, cuts_put}
use Rattle.flash_laws.specs.Lives.{DoesFlashDeed, IsUp, next_bank}
use Rattle.flash_log.specs.Going.{machine, Goes, BlankFrom}
use Rattle.flash_log.specs.Taking.{Taken, ReadsLog, last_generation}
use Rattle.flash_log.specs.Scanned.{ScannedTo, NoLogCounts, FreeBest, NoLaterHeads}
use Rattle.flash_log.specs.declared.reading.LogEnd.{LogEnd}
use Rattle.flash_log.specs.declared.scanning.Best.{Best}
use Rattle.flash_plan.specs.declared.operations.FlashOutcome.{FlashOutcome}
use Rattle.flash_plan.specs.declared.operations.FlashOutcome.TheVariants.{Answered, Done, Failed}
use Rattle.flash_plan.specs.declared.plans.WaitingPut.{WaitingPut}
use Rattle.flash_plan.specs.declared.plans.PlanEnd.{PlanEnd}
use Rattle.flash_plan.specs.declared.plans.PlanEnd.TheVariants.{NoStore, Exhausted, Formatted, Failed as end_failed}
use Rattle.flash_plan.specs.declared.plans.PlanEnd.TheVariants.{OtherSizes}
use Rattle.flash_plan.specs.declared.plans.PlanStep.{PlanStep}
use Rattle.flash_plan.specs.declared.plans.PlanStep.TheVariants.{Heading, Copied, Puts, Free, Erasing, Copying, Ready}
use Rattle.flash_plan.specs.declared.plans.PlanStep.TheVariants.{Clearing, Filling, Ended}
use Rattle.flash_plan.specs.declared.plans.FlashPlan.{FlashPlan}

-- the places of a bank
abbrev pub BankPlaces : Type 0
BankPlaces = ℕ → FlashPlace

-- before this bank is read
pub record BeforeBank (n bank : ℕ) (first f : Flash) (best : Best) (latest : List ℕ) (cells : CellList) : Type 0 where
  pub scanned : ScannedTo n bank first f best cells
  pub free : FreeBest f best
  pub heads : NoLaterHeads f bank latest

-- while this bank is read: what was read of it so far makes this of its places
pub record WithinBank (n bank : ℕ) (first f : Flash) (best : Best) (latest : List ℕ) (cells : CellList)
    (Reads : BankPlaces → BankPlaces → Type 0) : Type 0 where
  pub before : Flash
  pub scanned : ScannedTo n bank first before best cells
  pub free : FreeBest before best
  pub others : SameOthers bank before f
  pub heads : NoLaterHeads f (suc bank) latest
  pub reads : Reads (before bank) (f bank)

-- its head and so many cells of the copy
abbrev pub ReadsCopy : ℕ → ℕ → CellList → BankPlaces → BankPlaces → Type 0
ReadsCopy generation done scratch u v = Taken u v (Head generation ∷ copy_lines 0 (take done scratch))

-- its head, the copy, and the puts before this place
pub record ReadsPuts (n generation place : ℕ) (scratch : CellList) (u v : BankPlaces) : Type 0 where
  pub first : CellList
  pub count : length first ≡ n
  pub puts : List FlashLine
  pub taken : Taken u v (Head generation ∷ (copy_lines 0 first ++ puts))
  pub place_is : place ≡ 1 + n + length puts
  pub made : scratch ≡ after_lines puts first

-- its log, if it has one, and if it says so, all places behind it are blank
pub record ReadsBank (n : ℕ) (answer : Option LogEnd) (scratch : CellList) (u v : BankPlaces) : Type 0 where
  pub log : ReadsLog n answer scratch u v
  pub free : IfSome answer (λ end. end.is_free ≡ true → (k : ℕ) → end.next ≤ k → v k ≡ blank_place)

-- its log, and behind it so many places that are blank
pub record ReadsFree (n generation next place : ℕ) (scratch : CellList) (u v : BankPlaces) : Type 0 where
  pub log : ReadsLog n (Some (record { generation = generation; next = next; is_free = true })) scratch u v
  pub beyond : (k : ℕ) → next ≤ k → v k ≡ u k
  pub ahead : next < place
  pub blank : (k : ℕ) → next ≤ k → k < place → v k ≡ blank_place

-- A point of the machine, before or while banks are read: the power is off, and a flash was found.
pub record ReadsFrom (at : FlashMachine) (Reads : Flash → Type 0) : Type 0 where
  pub first : Flash
  pub is : at ≡ machine first off
  pub reads : Reads first

-- the log that counts was found or is in use
pub record IsUpAt (bank generation : ℕ) (cells : CellList) (at : FlashMachine) (f : Flash) : Type 0 where
  pub stage : FlashStage
  pub is : at ≡ machine f stage
  pub up : IsUp stage bank generation cells

-- a copy is being made in the next bank: what isn't programmed yet is blank
pub record IsCopyingAt (l : FlashLayout) (bank generation done : ℕ) (cells : CellList) (at : FlashMachine) (f : Flash)
    : Type 0 where
  pub is : at ≡ machine f (copying bank generation cells done)
  pub most : done ≤ length cells
  pub head : f (next_bank l.banks bank) 0 ≡ blank_place
  pub rest : BlankFrom f (next_bank l.banks bank) (suc done)

pub record IsReadyAt (bank generation next : ℕ) (cells : CellList) (at : FlashMachine) (f : Flash) : Type 0 where
  pub is : at ≡ machine f (ready bank generation cells next)
  pub rest : BlankFrom f bank next

-- the log that was found has the last generation
pub record IsLastAt (cells : CellList) (at : FlashMachine) (f : Flash) : Type 0 where
  pub bank : ℕ
  pub next : ℕ
  pub is : at ≡ machine f (found bank last_generation cells next)

abbrev pub EndsAt : FlashLayout → CellList → FlashMachine → Flash → PlanEnd → Type 0
EndsAt l cells at f NoStore = ReadsFrom at (λ first. NoLogCounts l first f)
EndsAt l cells at f Exhausted = IsLastAt cells at f
EndsAt l cells at f Formatted = ⊥
EndsAt l cells at f end_failed = at ≡ machine f off
EndsAt l cells at f OtherSizes = at ≡ machine f off

abbrev pub StepAt : FlashLayout → Best → List ℕ → CellList → CellList → FlashMachine → Flash → PlanStep → Type 0
StepAt l best latest cells scratch at f (Heading bank) =
    ReadsFrom at (λ first. BeforeBank l.cells bank first f best latest cells)
StepAt l best latest cells scratch at f (Copied bank generation done) =
    ReadsFrom at (λ first. WithinBank l.cells bank first f best latest cells (ReadsCopy generation done scratch))
StepAt l best latest cells scratch at f (Puts bank generation place) =
    ReadsFrom at (λ first. WithinBank l.cells bank first f best latest cells
    (ReadsPuts l.cells generation place scratch))
StepAt l best latest cells scratch at f (Free bank generation next place) =
    ReadsFrom at (λ first. WithinBank l.cells bank first f best latest cells
    (ReadsFree l.cells generation next place scratch))
StepAt l best latest cells scratch at f (Erasing bank generation) = IsUpAt bank generation cells at f
StepAt l best latest cells scratch at f (Copying bank generation done) = IsCopyingAt l bank generation done cells at f
StepAt l best latest cells scratch at f (Ready bank generation next) = IsReadyAt bank generation next cells at f
StepAt l best latest cells scratch at f (Clearing bank) = ⊥
StepAt l best latest cells scratch at f (Filling done) = ⊥
StepAt l best latest cells scratch at f (Ended end) = EndsAt l cells at f end

abbrev pub plan_layout : FlashPlan → ℕ → FlashLayout
plan_layout plan n = record { banks = plan.banks; cells = n }

-- The plan, with these cells and what was read of a bank, stands at this point when the flash is so.
abbrev pub StandsAt : FlashLayout → FlashPlan → CellList → CellList → FlashMachine → Flash → Type 0
StandsAt l plan cells scratch at f = StepAt l plan.best plan.latest cells scratch at f plan.step

-- deeds that change no cell lead to the point at which the plan stands
pub record Reaches (l : FlashLayout) (plan : FlashPlan) (cells scratch : CellList) (from : FlashMachine) (f : Flash)
    : Type 0 where
  pub at : FlashMachine
  pub goes : Goes l from at
  pub stands : StandsAt l plan cells scratch at f

-- the same of a step that comes next
pub record ReachesStep (l : FlashLayout) (best : Best) (latest : List ℕ) (cells scratch : CellList)
    (from : FlashMachine) (f : Flash) (step : PlanStep) : Type 0 where
  pub at : FlashMachine
  pub goes : Goes l from at
  pub stands : StepAt l best latest cells scratch at f step

-- What an operation did: the put that it programmed is done, or was cut; any other one changes no cell.
abbrev pub MovesBy : FlashLayout → Option WaitingPut → FlashOutcome → FlashMachine → FlashMachine → Type 0
MovesBy l None outcome a b = Goes l a b
MovesBy l (Some put) (Answered answer) a b = DoesFlashDeed l (cuts_put put.cell put.payload) a b
MovesBy l (Some put) Done a b = DoesFlashDeed l (puts put.cell put.payload) a b
MovesBy l (Some put) Failed a b = DoesFlashDeed l (cuts_put put.cell put.payload) a b

-- the plan stands at a point that is reached so
pub record PlanMovesOn (l : FlashLayout) (put : Option WaitingPut) (outcome : FlashOutcome) (plan : FlashPlan)
    (cells scratch : CellList) (from : FlashMachine) (g : Flash) : Type 0 where
  pub at : FlashMachine
  pub moves : MovesBy l put outcome from at
  pub stands : StandsAt l plan cells scratch at g
