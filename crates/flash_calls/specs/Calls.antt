-- What a call does to a plan in numbers, and why it does nothing.
use Rattle.std.specs.Prelude.{◌≡◌, ◌≢◌, ◌⊎◌, ◌↔◌, ◌+◌, ◌-◌, ◌*◌, ◌/◌, ◌≤◌, ◌<◌, ℕ, Option, Some, None, IfSome, List, length}
use Rattle.std.specs.Prelude.{take, drop, replicate}
use Rattle.flash_places.specs.Places.{Flash}
use Rattle.flash_laws.specs.Logs.{CellList}
use Rattle.flash_laws.specs.Lives.{FlashMachine, off}
use Rattle.flash_log.specs.Going.{machine}
use Rattle.flash_lines.specs.declared.sizes.FlashSizes.{FlashSizes}
use Rattle.flash_lines.specs.Lines.{line_length, untold}
use Rattle.flash_plan.specs.declared.operations.Operation.{Operation}
use Rattle.flash_plan.specs.declared.operations.FlashOutcome.{FlashOutcome}
use Rattle.flash_plan.specs.declared.plans.PlanEnd.TheVariants.{Formatted as end_formatted, NoStore as end_no_store}
use Rattle.flash_plan.specs.declared.plans.PlanEnd.TheVariants.{Exhausted as end_exhausted, Failed as end_failed}
use Rattle.flash_plan.specs.declared.plans.PlanEnd.TheVariants.{OtherSizes}
use Rattle.flash_plan.specs.declared.plans.FlashPlan.{FlashPlan}
use Rattle.flash_plan.specs.declared.plans.PlanStep.{PlanStep}
use Rattle.flash_plan.specs.declared.plans.PlanStep.TheVariants.{Heading, Copied, Puts, Free, Erasing, Copying}
use Rattle.flash_plan.specs.declared.plans.PlanStep.TheVariants.{Ready, Clearing, Filling, Ended}
use Rattle.flash_plan.specs.Plans.{IsIdle, IsFullAt, ReadsAt, SkipsOlder, operation_of, put_in, put_left}
use Rattle.flash_plan.specs.Plans.{operations_left, FindsNothing}
use Rattle.flash_plan.specs.Wear.{puts_to_bank, erases_by, erase_credit}
use Rattle.flash_plan.specs.Formatting.{FormatsAt}
use Rattle.flash_plan.specs.Performing.{IsWithinFlash}
use Rattle.flash_plan.specs.Standing.{plan_layout, StandsAt, PlanMovesOn}
use Rattle.flash_calls.specs.declared.calls.FlashRefusal.{FlashRefusal}
use Rattle.flash_calls.specs.declared.calls.FlashRefusal.TheVariants.{BadLength, BadValue, NoStore, Busy}
use Rattle.flash_calls.specs.declared.calls.FlashRefusal.TheVariants.{Exhausted, Failed}
use Rattle.flash_calls.specs.declared.numbers.FlashNumbers.{FlashNumbers}
use Rattle.flash_calls.specs.declared.operations.FlashOperation.{FlashOperation}
use Rattle.flash_calls.specs.Numbers.{plan_in, sizes_in, head_sizes}
use Rattle.flash_calls.specs.Operations.{IsProgramUnit, IsCallOf, FitsPart, SaysOperation}
use Rattle.flash_calls.specs.Operations.{PerformsBytes, Comes, FailsBy, ReadsHead, ReadsOtherHead, IsOtherSize}

-- a line of a part of this unit takes so many bytes
pub record IsLineSize (unit size : ℕ) : Type 0 where
  pub unit_is : IsProgramUnit unit
  pub is : size ≡ line_length unit
  pub least : 44 ≤ size
  pub most : size ≤ 128

-- a plan at power-up, over a flash of these sizes: it reads the head of bank 0 first
pub record Begun (unit banks bank_size n : ℕ) (new : FlashNumbers) : Type 0 where
  pub fits : FitsPart unit banks bank_size n
  pub unit_is : new.unit ≡ unit
  pub banks_is : new.banks ≡ banks
  pub places_is : new.places ≡ bank_size / line_length unit
  pub call : IsCallOf n new
  pub sizes_are : sizes_in new ≡ record { unit = unit; banks = banks; bank_size = bank_size; cells = n }
  pub tells : new.is_untold ≡ 0
  pub first : (plan_in new).step ≡ Heading 0
  pub nothing : FindsNothing (plan_in new)
  pub left : operations_left n (plan_in new) ≤ banks * new.places + (n + 2)
  pub none : (plan_in new).put ≡ None
  pub stands : (cells scratch : CellList) (f : Flash)
      → StandsAt (plan_layout (plan_in new) n) (plan_in new) cells scratch (machine f off) f

-- a plan that makes a store, over a flash of these sizes: it erases the last bank first
pub record FormatBegun (unit banks bank_size n : ℕ) (new : FlashNumbers) : Type 0 where
  pub fits : FitsPart unit banks bank_size n
  pub unit_is : new.unit ≡ unit
  pub banks_is : new.banks ≡ banks
  pub places_is : new.places ≡ bank_size / line_length unit
  pub call : IsCallOf n new
  pub sizes_are : sizes_in new ≡ record { unit = unit; banks = banks; bank_size = bank_size; cells = n }
  pub tells : new.is_untold ≡ 0
  pub first : (plan_in new).step ≡ Clearing (banks - 1)
  pub formats : (cells : CellList) (f : Flash) → FormatsAt (plan_in new) cells f

-- why nothing comes next of a plan that has ended
abbrev pub refusal_of : PlanStep → Option FlashRefusal
refusal_of (Heading bank) = None
refusal_of (Copied bank generation done) = None
refusal_of (Puts bank generation place) = None
refusal_of (Free bank generation next place) = None
refusal_of (Erasing bank generation) = None
refusal_of (Copying bank generation done) = None
refusal_of (Ready bank generation next) = None
refusal_of (Clearing bank) = None
refusal_of (Filling done) = None
refusal_of (Ended end_formatted) = None
refusal_of (Ended end_no_store) = Some NoStore
refusal_of (Ended OtherSizes) = Some NoStore
refusal_of (Ended end_exhausted) = Some Exhausted
refusal_of (Ended end_failed) = Some Failed

-- The numbers are a plan that hasn't ended, and this is said of its next operation. A head that is programmed tells
-- their sizes, or none if this start has read one that tells none. What the operation doesn't use is zero: bytes that
-- are none of a line that is programmed, and all of no operation.
pub record SaysNext (flash : FlashNumbers) (cells : CellList) (o : FlashOperation) : Type 0 where
  pub call : IsCallOf (length cells) flash
  pub goes_on : refusal_of (plan_in flash).step ≡ None
  pub inside : IfSome (operation_of (plan_in flash) cells) (λ it. IsWithinFlash flash.banks flash.places it)
  pub says : SaysOperation (line_length flash.unit) (head_sizes flash) (operation_of (plan_in flash) cells) o
  pub quiet : o.kind ≢ 3 → o.bytes ≡ replicate 128 0
  pub rest : drop (line_length flash.unit) o.bytes ≡ replicate (128 - line_length flash.unit) 0
  pub idle : o.kind ≡ 0 → (o.bank ≡ 0) × ((o.offset ≡ 0) × (o.length ≡ 0))

-- why none is said
abbrev pub FlashNextRefused : ℕ → FlashNumbers → FlashRefusal → Type 0
FlashNextRefused n flash refusal =
    ((refusal ≡ BadValue) × (IsCallOf n flash → ⊥))
    ⊎ (IsCallOf n flash × (refusal_of (plan_in flash).step ≡ Some refusal))

-- a head that was read told this, or none was read: it is of another store than one of these sizes
abbrev pub IsOtherTold : FlashSizes → Option FlashSizes → Type 0
IsOtherTold own None = ⊥
IsOtherTold own (Some told) = IsOtherSize own told

-- a plan that has ended so
abbrev pub other_plan : FlashPlan → FlashPlan
other_plan plan = record plan { step = Ended OtherSizes }

-- the plan goes on, unless a head of another store was read: then it has ended
abbrev pub EndsIfOther : FlashSizes → Option FlashSizes → FlashPlan → FlashPlan → Type 0
EndsIfOther own told plan new =
    ((IsOtherTold own told → ⊥) × (new ≡ plan)) ⊎ (IsOtherTold own told × (new ≡ other_plan plan))

-- a head that tells nothing is noted
abbrev pub IsUntoldAfter : ℕ → Option FlashSizes → ℕ → Type 0
IsUntoldAfter old None new = new ≡ old
IsUntoldAfter old (Some told) new = (told ≡ untold → new ≡ 1) × (told ≢ untold → new ≡ old)

-- What a head that was read leads to. The plan has ended so exactly if it tells other sizes, and some. If it tells none,
-- that is noted. If no head was read so far but such, nothing was found.
pub record TakesHead (outcome : ℕ) (line : List ℕ) (old : FlashNumbers) (it : Operation) (new : FlashNumbers)
    : Type 0 where
  pub other : ((plan_in new).step ≡ Ended OtherSizes) ↔ ReadsOtherHead (sizes_in old) it outcome line
  pub noted : ReadsHead it outcome line untold → new.is_untold ≡ 1
  pub kept : (ReadsHead it outcome line untold → ⊥) → new.is_untold ≡ old.is_untold
  pub nothing : FindsNothing (plan_in old)
      → ((told : FlashSizes) → ReadsHead it outcome line told → IsOtherSize (sizes_in old) told)
      → FindsNothing (plan_in new)

-- an operation of the plan failed
abbrev pub HasFailed : FlashPlan → Type 0
HasFailed plan = (plan.step ≡ Ended end_failed) × (plan.put ≡ None)

-- What the outcome of the operation that comes next does to a put. It goes on waiting until its line is programmed. If
-- an operation fails before, or its program does, the plan has failed.
pub record PutMoves (outcome : ℕ) (old new : FlashPlan) : Type 0 where
  pub waits : put_in old ≡ None → (new.put ≡ old.put) ⊎ HasFailed new
  pub programmed : put_in old ≢ None → new.put ≡ None
  pub failed : put_in old ≢ None → outcome ≢ 0 → HasFailed new

-- The caller performed the next operation, and the plan stands where that leads. It has failed exactly if the outcome
-- says so. If none came next, nothing changed. A plan that makes a store keeps its cells. An erase is paid for (`wear`),
-- and a bank whose log is older than one before it isn't read on (`skips`).
pub record DidMoves (outcome : ℕ) (bytes : List ℕ) (old : FlashNumbers) (cells scratch : CellList) (new : FlashNumbers)
    (cells' scratch' : CellList) : Type 0 where
  pub was : IsCallOf (length cells) old
  pub call : IsCallOf (length cells) new
  pub alike : length scratch ≡ length cells
  pub count : length cells' ≡ length cells
  pub scratch_count : length scratch' ≡ length scratch
  pub unit_is : new.unit ≡ old.unit
  pub banks_is : new.banks ≡ old.banks
  pub places_is : new.places ≡ old.places
  pub sizes_are : sizes_in new ≡ sizes_in old
  pub head : IfSome (operation_of (plan_in old) cells)
      (λ it. TakesHead outcome (take (line_length old.unit) bytes) old it new)
  pub cleared : (bank : ℕ) → (plan_in old).step ≡ Clearing bank → (plan_in new).step ≢ Ended end_formatted
  pub moves : (at : FlashMachine) (f g : Flash)
      → StandsAt (plan_layout (plan_in old) (length cells)) (plan_in old) cells scratch at f
      → IfSome (operation_of (plan_in old) cells) (λ it. PerformsBytes old.places (line_length old.unit) it outcome
      bytes f g → (came : FlashOutcome) × (Comes it outcome came × PlanMovesOn (plan_layout (plan_in old)
      (length cells)) (put_in (plan_in old)) came (plan_in new) cells' scratch' at g))
  pub formats : (f g : Flash) → FormatsAt (plan_in old) cells f
      → IfSome (operation_of (plan_in old) cells) (λ it. PerformsBytes old.places (line_length old.unit) it outcome
      bytes f g → FormatsAt (plan_in new) cells' g × (cells' ≡ cells))
  pub put : (operation_of (plan_in old) cells ≡ None → ⊥) → PutMoves outcome (plan_in old) (plan_in new)
  pub fails : IfSome (operation_of (plan_in old) cells)
      (λ it. ((plan_in new).step ≡ Ended end_failed) ↔ FailsBy it outcome)
  pub less : (operation_of (plan_in old) cells ≡ None → ⊥)
      → operations_left (length cells) (plan_in new) < operations_left (length cells) (plan_in old)
  pub none : operation_of (plan_in old) cells ≡ None → (new ≡ old) × ((cells' ≡ cells) × (scratch' ≡ scratch))
  pub skips : SkipsOlder (plan_in old).best (plan_in old).step → SkipsOlder (plan_in new).best (plan_in new).step
  pub wear : (ReadsAt (plan_in old).step → ⊥)
      → erases_by (operation_of (plan_in old) cells) * puts_to_bank old.places (length cells)
      + erase_credit old.places (length cells) (plan_in new).step
      ≤ erase_credit old.places (length cells) (plan_in old).step + put_left (put_in (plan_in old))

-- why it doesn't take the outcome: scratch has m cells
abbrev pub FlashDidRefused : ℕ → ℕ → FlashNumbers → FlashRefusal → Type 0
FlashDidRefused n m flash refusal =
    ((refusal ≡ BadLength) × (m ≢ n)) ⊎ ((refusal ≡ BadValue) × ((m ≡ n) × (IsCallOf n flash → ⊥)))

-- The put waits. Its line is programmed next (`programs`), unless the bank is full: then a copy is made first (`copies`).
pub record PutTaken (cell : ℕ) (payload : List ℕ) (cells : CellList) (old new : FlashNumbers) : Type 0 where
  pub was : IsCallOf (length cells) old
  pub below : cell < length cells
  pub idle : IsIdle (plan_in old)
  pub room : IsFullAt old.places (plan_in old).step → ⊥
  pub call : IsCallOf (length cells) new
  pub unit_is : new.unit ≡ old.unit
  pub banks_is : new.banks ≡ old.banks
  pub places_is : new.places ≡ old.places
  pub sizes_are : sizes_in new ≡ sizes_in old
  pub tells : new.is_untold ≡ old.is_untold
  pub waits : (plan_in new).put ≡ Some (record { cell = cell; payload = payload })
  pub programs : (bank generation next : ℕ) → (plan_in old).step ≡ Ready bank generation next → next < old.places
      → (plan_in new).step ≡ (plan_in old).step
  pub copies : (bank generation next : ℕ) → (plan_in old).step ≡ Ready bank generation next → old.places ≤ next
      → (plan_in new).step ≡ Erasing bank generation
  pub left : operations_left (length cells) (plan_in new) ≤ length cells + 3
  pub stands : (scratch : CellList) (at : FlashMachine) (f : Flash)
      → StandsAt (plan_layout (plan_in old) (length cells)) (plan_in old) cells scratch at f
      → StandsAt (plan_layout (plan_in old) (length cells)) (plan_in new) cells scratch at f

-- why it isn't taken
abbrev pub FlashPutRefused : ℕ → ℕ → FlashNumbers → FlashRefusal → Type 0
FlashPutRefused n cell flash refusal =
    ((refusal ≡ BadValue) × (IsCallOf n flash → cell < n → ⊥))
    ⊎ ((IsCallOf n flash × (cell < n)) × (((refusal ≡ Busy) × (IsIdle (plan_in flash) → ⊥))
    ⊎ ((refusal ≡ Exhausted) × (IsIdle (plan_in flash) × IsFullAt flash.places (plan_in flash).step))))
