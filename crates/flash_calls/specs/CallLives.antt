-- All lives of a caller that keeps its duties: it performs what the calls say, and reports what came of it. The power
-- may go at any time.
use Rattle.std.specs.Prelude.{◌≡◌, ◌⊎◌, ◌<◌, ℕ, nat_eq, if◌then◌else◌, Option, Some, List, [], ◌∷◌, ◌++◌, length, take}
use Rattle.flash_places.specs.Places.{Flash}
use Rattle.flash_laws.specs.Logs.{CellList}
use Rattle.flash_laws.specs.Lives.{FlashLayout, FlashDeed, FlashFormatted, off}
use Rattle.flash_laws.specs.CutFormats.{CutFormatted}
use Rattle.flash_log.specs.Going.{machine}
pub use Rattle.flash_lines.specs.declared.sizes.FlashSizes.{FlashSizes}
use Rattle.flash_lines.specs.Lines.{line_length, untold}
use Rattle.flash_places.specs.declared.FlashLine.TheVariants.{Head}
use Rattle.flash_plan.specs.declared.operations.Operation.{Operation}
use Rattle.flash_plan.specs.declared.operations.Operation.TheVariants.{Read, Erase, Program}
use Rattle.flash_plan.specs.declared.operations.FlashOutcome.{FlashOutcome}
use Rattle.flash_plan.specs.declared.operations.FlashOutcome.TheVariants.{Done, Failed}
use Rattle.flash_plan.specs.declared.plans.WaitingPut.{WaitingPut}
use Rattle.flash_plan.specs.Performing.{DoesOperation}
use Rattle.flash_plan.specs.Plans.{Fails, IsIdle, operation_of, put_in}
use Rattle.flash_plan.specs.Turns.{deed_in}
use Rattle.flash_calls.specs.declared.numbers.FlashNumbers.{FlashNumbers}
use Rattle.flash_calls.specs.Numbers.{plan_in, head_sizes}
use Rattle.flash_calls.specs.Operations.{PerformsBytes, ReadsHead, IsOtherSize}
use Rattle.flash_calls.specs.Calls.{Begun, FormatBegun, DidMoves, PutTaken}

abbrev pub sizes_layout : FlashSizes → FlashLayout
sizes_layout s = record { banks = s.banks; cells = s.cells }

-- what the head of each bank tells, if it has one
abbrev pub ToldHeads : Type 0
ToldHeads = ℕ → FlashSizes

-- what the caller holds, its flash, and what heads tell there
pub record CallState : Type 0 where
  pub numbers : FlashNumbers
  pub cells : CellList
  pub scratch : CellList
  pub flash : Flash
  pub heads : ToldHeads

-- a head that is programmed, done or cut, tells these sizes; nothing else changes what heads tell
abbrev pub heads_after : FlashSizes → Operation → ToldHeads → ToldHeads
heads_after told (Read bank place) heads x = heads x
heads_after told (Erase bank) heads x = heads x
heads_after told (Program bank place line) heads x =
    if nat_eq place 0 then (if nat_eq bank x then told else heads x) else heads x

-- no forged head: one that is read tells what that of its bank tells
abbrev pub ReadsToldHeads : ToldHeads → Operation → ℕ → List ℕ → Type 0
ReadsToldHeads heads it outcome line = (told : FlashSizes) (r : ReadsHead it outcome line told) → told ≡ heads r.bank

-- what heads tell, and the caller's part, after an operation
abbrev pub KeepsHeads : FlashNumbers → Operation → ToldHeads → ToldHeads → Type 0
KeepsHeads numbers it old new = (x : ℕ) → new x ≡ heads_after (head_sizes numbers) it old x

abbrev pub SameHeads : ToldHeads → ToldHeads → Type 0
SameHeads old new = (x : ℕ) → new x ≡ old x

-- What happens. The operation that comes next is performed, and its outcome is reported with these bytes; `put` is the
-- put whose line it programs, if it is one. A put is taken. All begins again: as the caller likes, or since the power
-- went between two operations. The power goes within the operation that comes next.
pub data CallDeed : Type 0 where
  performs : (put : Option WaitingPut) → (outcome : ℕ) → (bytes : List ℕ) → CallDeed
  takes_put : (cell : ℕ) → (payload : List ℕ) → CallDeed
  starts : CallDeed
  is_cut : (put : Option WaitingPut) → CallDeed

-- an operation comes next, and it programs this put, if it is one
pub record ComesNext (put : Option WaitingPut) (a : CallState) : Type 0 where
  pub put_is : put_in (plan_in a.numbers) ≡ put
  pub operation : Operation
  pub next : operation_of (plan_in a.numbers) a.cells ≡ Some operation

pub record PerformsNext (put : Option WaitingPut) (outcome : ℕ) (bytes : List ℕ) (a b : CallState) : Type 0 where
  pub comes : ComesNext put a
  pub performed : PerformsBytes a.numbers.places (line_length a.numbers.unit) comes.operation outcome bytes a.flash
      b.flash
  pub told : ReadsToldHeads a.heads comes.operation outcome (take (line_length a.numbers.unit) bytes)
  pub heads : KeepsHeads a.numbers comes.operation a.heads b.heads
  pub reported : DidMoves outcome bytes a.numbers a.cells a.scratch b.numbers b.cells b.scratch

pub record TakesPut (cell : ℕ) (payload : List ℕ) (a b : CallState) : Type 0 where
  pub taken : PutTaken cell payload a.cells a.numbers b.numbers
  pub cells : b.cells ≡ a.cells
  pub scratch : b.scratch ≡ a.scratch
  pub flash : b.flash ≡ a.flash
  pub heads : SameHeads a.heads b.heads

-- a plan was begun at power-up; cells and scratch have any bytes
pub record CallBegun (s : FlashSizes) (a : CallState) : Type 0 where
  pub begun : Begun s.unit s.banks s.bank_size s.cells a.numbers
  pub count : length a.cells ≡ s.cells

pub record StartsAgain (s : FlashSizes) (a b : CallState) : Type 0 where
  pub begun : CallBegun s b
  pub flash : b.flash ≡ a.flash
  pub heads : SameHeads a.heads b.heads

-- the operation leaves what a failed one may leave, and then all begins again
pub record IsCutNext (s : FlashSizes) (put : Option WaitingPut) (a b : CallState) : Type 0 where
  pub comes : ComesNext put a
  pub outcome : FlashOutcome
  pub fails : Fails comes.operation outcome
  pub leaves : DoesOperation comes.operation outcome a.flash b.flash
  pub heads : KeepsHeads a.numbers comes.operation a.heads b.heads
  pub begun : CallBegun s b

abbrev pub DoesCall : FlashSizes → CallDeed → CallState → CallState → Type 0
DoesCall s (performs put outcome bytes) a b = PerformsNext put outcome bytes a b
DoesCall s (takes_put cell payload) a b = TakesPut cell payload a b
DoesCall s starts a b = StartsAgain s a b
DoesCall s (is_cut put) a b = IsCutNext s put a b

-- one after the other
abbrev pub CallLives : FlashSizes → List CallDeed → CallState → CallState → Type 0
CallLives s [] a c = c ≡ a
CallLives s (deed ∷ deeds) a c = (b : CallState) × (DoesCall s deed a b × CallLives s deeds b c)

-- the outcome of a program, as its number says
abbrev pub program_outcome : ℕ → FlashOutcome
program_outcome outcome = if nat_eq outcome 0 then Done else Failed

-- the puts that were programmed: done if the caller reports so, else cut
abbrev pub call_puts : CallDeed → List FlashDeed
call_puts (performs put outcome bytes) = deed_in put (program_outcome outcome)
call_puts (takes_put cell payload) = []
call_puts starts = []
call_puts (is_cut put) = deed_in put Failed

abbrev pub puts_made : List CallDeed → List FlashDeed
puts_made [] = []
puts_made (deed ∷ deeds) = call_puts deed ++ puts_made deeds

-- a plan that makes a store was begun, of the cells that the caller holds
pub record CallFormatBegun (s : FlashSizes) (a : CallState) : Type 0 where
  pub begun : FormatBegun s.unit s.banks s.bank_size s.cells a.numbers
  pub count : length a.cells ≡ s.cells

-- it is one of the operations of a plan that is performed and reported
abbrev pub OperationDone : CallDeed → CallState → CallState → Type 0
OperationDone (performs put outcome bytes) a b = PerformsNext put outcome bytes a b
OperationDone (takes_put cell payload) a b = ⊥
OperationDone starts a b = ⊥
OperationDone (is_cut put) a b = ⊥

-- nothing else happens
abbrev pub OperationsDone : List CallDeed → CallState → CallState → Type 0
OperationsDone [] a c = c ≡ a
OperationsDone (deed ∷ deeds) a c = (b : CallState) × (OperationDone deed a b × OperationsDone deeds b c)

-- a store of these cells was made on the flash, or the power cut into the last operation of that
abbrev pub IsMade : FlashSizes → CellList → CallState → Type 0
IsMade s cells a = FlashFormatted (sizes_layout s) cells (machine a.flash off)
    ⊎ CutFormatted (sizes_layout s) cells (machine a.flash off)

-- some lives lead from there to this plan, which is idle
pub record IsFoundStore (s : FlashSizes) (first : CellList) (a : CallState) : Type 0 where
  pub start : CallState
  pub made : IsMade s first start
  pub begun : CallBegun s start
  pub deeds : List CallDeed
  pub lives : CallLives s deeds start a
  pub idle : IsIdle (plan_in a.numbers)

-- each put that is taken is such a one
abbrev pub EachPutTaken : (ℕ → List ℕ → Type 0) → List CallDeed → Type 0
EachPutTaken P [] = Unit {0}
EachPutTaken P (performs put outcome bytes ∷ deeds) = EachPutTaken P deeds
EachPutTaken P (takes_put cell payload ∷ deeds) = P cell payload × EachPutTaken P deeds
EachPutTaken P (starts ∷ deeds) = EachPutTaken P deeds
EachPutTaken P (is_cut put ∷ deeds) = EachPutTaken P deeds

-- it is this one
abbrev pub IsPutOf : ℕ → List ℕ → ℕ → List ℕ → Type 0
IsPutOf cell payload i c = (i ≡ cell) × (c ≡ payload)

-- no put is taken
abbrev pub TakesNoPut : List CallDeed → Type 0
TakesNoPut deeds = EachPutTaken (λ i c. ⊥) deeds

-- each head of a bank of this part tells this
abbrev pub EachHeadTells : FlashSizes → (FlashSizes → Type 0) → CallState → Type 0
EachHeadTells s P a =
    (bank generation : ℕ) → bank < s.banks → (a.flash bank 0).content ≡ Some (Head generation) → P (a.heads bank)

-- it tells these sizes; or none, as a store that an earlier version made
abbrev pub TellsOwn : FlashSizes → FlashSizes → Type 0
TellsOwn s told = told ≡ s

abbrev pub TellsOwnOrNone : FlashSizes → FlashSizes → Type 0
TellsOwnOrNone s told = (told ≡ s) ⊎ (told ≡ untold)
