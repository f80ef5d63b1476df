-- What the reads of a start were answered, and what the plan has noted of it.
use Rattle.std.specs.Prelude.{◌≡◌, ◌≢◌, ◌≤◌, ◌<◌, ℕ, suc, false, Option, None, IfSome, List, get_or}
use Rattle.flash_places.specs.declared.Answer.{Answer}
use Rattle.flash_places.specs.declared.Answer.TheVariants.{Blank}
use Rattle.flash_laws.specs.Lives.{next_bank}
use Rattle.flash_log.specs.declared.reading.LogEnd.{LogEnd}
use Rattle.flash_log.specs.declared.scanning.FoundLog.{FoundLog}
use Rattle.flash_log.specs.declared.scanning.Best.{Best}
use Rattle.flash_log.specs.declared.scanning.Best.TheVariants.{NoLog, One, Tie}
use Rattle.flash_log.specs.Taking.{last_generation, latest_head}
use Rattle.flash_plan.specs.declared.operations.Operation.{Operation}
use Rattle.flash_plan.specs.declared.operations.Operation.TheVariants.{Read, Erase, Program}
use Rattle.flash_plan.specs.declared.operations.FlashOutcome.{FlashOutcome}
use Rattle.flash_plan.specs.declared.operations.FlashOutcome.TheVariants.{Answered}
use Rattle.flash_plan.specs.declared.plans.WaitingPut.{WaitingPut}
use Rattle.flash_plan.specs.declared.plans.PlanStep.{PlanStep}
use Rattle.flash_plan.specs.declared.plans.PlanStep.TheVariants.{Heading, Copied, Puts, Free, Erasing, Copying, Ready}
use Rattle.flash_plan.specs.declared.plans.PlanStep.TheVariants.{Clearing, Filling, Ended}
use Rattle.flash_plan.specs.declared.plans.FlashPlan.{FlashPlan}

-- what each place of each bank is read as in a start, which reads no place twice
abbrev pub PlaceAnswers : Type 0
PlaceAnswers = ℕ → ℕ → Answer

-- a read was answered so
abbrev pub AnswersSo : PlaceAnswers → Operation → FlashOutcome → Type 0
AnswersSo told (Read bank place) outcome = outcome ≡ Answered (told bank place)
AnswersSo told (Erase bank) outcome = Unit {0}
AnswersSo told (Program bank place line) outcome = Unit {0}

-- All places behind this log were read as blank, and the first place of the next bank as blank, or as an older head, or
-- as another line. If that was read as nothing, it counts as the last generation.
pub record MayResume (told : PlaceAnswers) (banks places : ℕ) (log : FoundLog) : Type 0 where
  pub free : (k : ℕ) → log.next ≤ k → k < places → told log.bank k ≡ Blank
  pub was_read : latest_head (told (next_bank banks log.bank) 0) < last_generation
  pub older : latest_head (told (next_bank banks log.bank) 0) < log.generation

-- some place of a bank, from one on, was read as something else than blank
pub record NotAllBlank (told : PlaceAnswers) (places bank next : ℕ) : Type 0 where
  pub place : ℕ
  pub from : next ≤ place
  pub below : place < places
  pub other : told bank place ≢ Blank

-- the log of a bank, and the best log so far: it is free behind it, or not all was read as blank there
abbrev pub LogTold : PlaceAnswers → ℕ → ℕ → Option LogEnd → Type 0
LogTold told places bank log = IfSome log (λ end. end.is_free ≡ false → NotAllBlank told places bank end.next)

abbrev pub BestTold : PlaceAnswers → ℕ → Best → Type 0
BestTold told places NoLog = Unit {0}
BestTold told places (One log) = log.is_free ≡ false → NotAllBlank told places log.bank log.next
BestTold told places (Tie generation) = Unit {0}

-- so far as the heads of so many banks were read
pub record StartTold (told : PlaceAnswers) (places count : ℕ) (best : Best) (latest : List ℕ) : Type 0 where
  pub log : BestTold told places best
  pub heads : (x : ℕ) → x < count → get_or latest x 0 ≡ latest_head (told x 0)

-- the log that counts is in this bank, and a start may not go on in it
pub record MustErase (told : PlaceAnswers) (banks places bank : ℕ) (best : Best) : Type 0 where
  pub log : FoundLog
  pub is : best ≡ One log
  pub here : log.bank ≡ bank
  pub must : MayResume told banks places log → ⊥

abbrev pub StepTold : PlaceAnswers → ℕ → ℕ → Option WaitingPut → Best → List ℕ → PlanStep → Type 0
StepTold told banks places put best latest (Heading bank) = StartTold told places bank best latest
StepTold told banks places put best latest (Copied bank generation done) = StartTold told places (suc bank) best latest
StepTold told banks places put best latest (Puts bank generation place) = StartTold told places (suc bank) best latest
StepTold told banks places put best latest (Free bank generation next place) =
    StartTold told places (suc bank) best latest × (next ≤ place)
StepTold told banks places put best latest (Erasing bank generation) =
    put ≡ None → MustErase told banks places bank best
StepTold told banks places put best latest (Copying bank generation done) = Unit {0}
StepTold told banks places put best latest (Ready bank generation next) = Unit {0}
StepTold told banks places put best latest (Clearing bank) = ⊥
StepTold told banks places put best latest (Filling done) = ⊥
StepTold told banks places put best latest (Ended end) = Unit {0}

-- The plan is one of a start, and each read of it was answered so. If it erases a bank, and not for a put, it must.
abbrev pub IsTold : PlaceAnswers → FlashPlan → Type 0
IsTold told plan = StepTold told plan.banks plan.places plan.put plan.best plan.latest plan.step
