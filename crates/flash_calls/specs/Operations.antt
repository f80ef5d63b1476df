-- Operations with the bytes of their lines, and what a caller does by them.
use Rattle.std.specs.Prelude.{◌≡◌, ◌≢◌, ◌⊎◌, ◌+◌, ◌*◌, ◌/◌, ◌^◌, ◌<◌, ◌≤◌, ℕ, nat_eq, if◌then◌else◌}
use Rattle.std.specs.Prelude.{Option, Some, None, List, take}
use Rattle.flash_places.specs.declared.Answer.TheVariants.{Blank, Nothing}
use Rattle.flash_places.specs.Places.{Flash, SameFlash, SameButAt, Erases, CutsErase, Programs, CutsProgram, LooksAt}
use Rattle.flash_places.specs.State.{BlankBehind}
use Rattle.flash_lines.specs.declared.sizes.FlashSizes.{FlashSizes}
use Rattle.flash_lines.specs.Lines.{line_bytes, line_length, untold, TellsSizes}
use Rattle.flash_lines.specs.Reading.{PlaceReads}
use Rattle.flash_lines.specs.declared.units.UnitSize.{UnitSize}
use Rattle.flash_lines.specs.Units.{unit_bytes}
use Rattle.flash_plan.specs.declared.operations.Operation.{Operation}
use Rattle.flash_plan.specs.declared.operations.Operation.TheVariants.{Read, Erase, Program}
use Rattle.flash_plan.specs.declared.operations.FlashOutcome.{FlashOutcome}
use Rattle.flash_plan.specs.declared.operations.FlashOutcome.TheVariants.{Answered, Done, Failed}
use Rattle.flash_plan.specs.Plans.{IsPlanOf, Fails}
use Rattle.flash_calls.specs.declared.numbers.FlashNumbers.{FlashNumbers}
use Rattle.flash_calls.specs.declared.operations.FlashOperation.{FlashOperation}
use Rattle.flash_calls.specs.Numbers.{plan_in}

-- some part programs units of so many bytes
abbrev pub IsProgramUnit : ℕ → Type 0
IsProgramUnit unit = (size : UnitSize) × (unit_bytes size ≡ unit)

-- these numbers are a plan of a store of n cells, and say so, over banks that a number of 32 bits counts the bytes of
pub record IsCallOf (n : ℕ) (flash : FlashNumbers) : Type 0 where
  pub unit : IsProgramUnit flash.unit
  pub plan : IsPlanOf n (plan_in flash)
  pub small : flash.places * line_length flash.unit < 2 ^ 32
  pub cells_is : flash.cells ≡ n

-- a flash of so many banks of so many bytes has room for a store of n cells
pub record FitsPart (unit banks bank_size n : ℕ) : Type 0 where
  pub unit_is : IsProgramUnit unit
  pub two : 2 ≤ banks
  pub few : banks ≤ 16
  pub slots : 14 ≤ n
  pub routes : n ≤ 270
  pub room : n + 2 ≤ bank_size / line_length unit

-- the struct says this operation, on lines of so many bytes; a head tells these sizes
abbrev pub SaysOperation : ℕ → FlashSizes → Option Operation → FlashOperation → Type 0
SaysOperation size told None o = o.kind ≡ 0
SaysOperation size told (Some (Read bank place)) o =
    (o.kind ≡ 1) × ((o.bank ≡ bank) × ((o.offset ≡ place * size) × (o.length ≡ size)))
SaysOperation size told (Some (Erase bank)) o =
    (o.kind ≡ 2) × ((o.bank ≡ bank) × ((o.offset ≡ 0) × (o.length ≡ 0)))
SaysOperation size told (Some (Program bank place line)) o =
    (o.kind ≡ 3) × ((o.bank ≡ bank) × ((o.offset ≡ place * size) × ((o.length ≡ size)
    × (take size o.bytes ≡ line_bytes size told line))))

-- what a read gave: bytes, blank, or nothing
pub data GaveRead (bank place : ℕ) (outcome : ℕ) (bytes : List ℕ) (f g : Flash) : Type 0 where
  gave_bytes : outcome ≡ 0 → PlaceReads (f bank place) bytes (g bank place) → SameButAt bank place f g
      → GaveRead bank place outcome bytes f g
  gave_blank : outcome ≡ 1 → LooksAt bank place Blank f g → GaveRead bank place outcome bytes f g
  gave_nothing : outcome ≡ 2 → LooksAt bank place Nothing f g → GaveRead bank place outcome bytes f g
  gave_failure : 2 < outcome → SameFlash f g → GaveRead bank place outcome bytes f g

-- an operation that changes the flash was done, or counts as cut
abbrev pub DoneOrCut : ℕ → Type 0 → Type 0 → Type 0
DoneOrCut outcome IfDone IfCut = ((outcome ≡ 0) × IfDone) ⊎ ((outcome ≢ 0) × IfCut)

-- the caller performed the operation on a line of these bytes, and this came of it
abbrev pub DoesBytes : Operation → ℕ → List ℕ → Flash → Flash → Type 0
DoesBytes (Read bank place) outcome bytes f g = GaveRead bank place outcome bytes f g
DoesBytes (Erase bank) outcome bytes f g = DoneOrCut outcome (Erases bank f g) (CutsErase bank f g)
DoesBytes (Program bank place line) outcome bytes f g =
    DoneOrCut outcome (Programs bank place line f g) (CutsProgram bank place line f g)

-- on a flash of so many places in a bank, whose lines are the first so many of these bytes
pub record PerformsBytes (places size : ℕ) (operation : Operation) (outcome : ℕ) (bytes : List ℕ) (f g : Flash)
    : Type 0 where
  pub does : DoesBytes operation outcome (take size bytes) f g
  pub behind : BlankBehind places g

-- The outcome of an operation, as a plan takes it. A read has failed only if the number is none of its own, and what is
-- told blank counts as blank.
abbrev pub Comes : Operation → ℕ → FlashOutcome → Type 0
Comes (Read bank place) outcome came =
    (2 < outcome → came ≡ Failed) × ((outcome ≡ 1 → came ≡ Answered Blank)
    × (outcome ≤ 2 → Fails (Read bank place) came → ⊥))
Comes (Erase bank) outcome came = came ≡ (if nat_eq outcome 0 then Done else Failed)
Comes (Program bank place line) outcome came = came ≡ (if nat_eq outcome 0 then Done else Failed)

-- an operation has failed by this number
abbrev pub FailsBy : Operation → ℕ → Type 0
FailsBy (Read bank place) outcome = 2 < outcome
FailsBy (Erase bank) outcome = outcome ≢ 0
FailsBy (Program bank place line) outcome = outcome ≢ 0

-- the place of an operation is below this one
abbrev pub IsPlaceBelow : ℕ → Operation → Type 0
IsPlaceBelow places (Read bank place) = place < places
IsPlaceBelow places (Erase bank) = Unit {0}
IsPlaceBelow places (Program bank place line) = place < places

-- the head of a bank was read, by this number and these bytes, and it tells these sizes
pub record ReadsHead (operation : Operation) (outcome : ℕ) (line : List ℕ) (told : FlashSizes) : Type 0 where
  pub bank : ℕ
  pub is : operation ≡ Read bank 0
  pub done : outcome ≡ 0
  pub tells : TellsSizes line told

-- a head that tells this is of another store than one of these sizes: it tells some, and others
abbrev pub IsOtherSize : FlashSizes → FlashSizes → Type 0
IsOtherSize own told = (told ≢ untold) × (told ≢ own)

-- a head was read that is of another store
pub record ReadsOtherHead (own : FlashSizes) (operation : Operation) (outcome : ℕ) (line : List ℕ) : Type 0 where
  pub told : FlashSizes
  pub reads : ReadsHead operation outcome line told
  pub other : IsOtherSize own told
