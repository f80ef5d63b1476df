-- What an operation does to a flash, by its outcome.
use Rattle.std.specs.Prelude.{◌≡◌, ◌<◌, ℕ}
use Rattle.flash_places.specs.Places.{Flash, SameFlash, Erases, CutsErase, Programs, CutsProgram, LooksAt, blank_place}
use Rattle.flash_places.specs.State.{BlankBehind}
use Rattle.flash_plan.specs.declared.operations.Operation.{Operation}
use Rattle.flash_plan.specs.declared.operations.Operation.TheVariants.{Read, Erase, Program}
use Rattle.flash_plan.specs.declared.operations.FlashOutcome.{FlashOutcome}
use Rattle.flash_plan.specs.declared.operations.FlashOutcome.TheVariants.{Answered, Done, Failed}

-- An outcome that is none of the operation's own counts as a failure.
abbrev pub DoesOperation : Operation → FlashOutcome → Flash → Flash → Type 0
DoesOperation (Read bank place) (Answered answer) f g = LooksAt bank place answer f g
DoesOperation (Read bank place) Done f g = SameFlash f g
DoesOperation (Read bank place) Failed f g = SameFlash f g
DoesOperation (Erase bank) (Answered answer) f g = CutsErase bank f g
DoesOperation (Erase bank) Done f g = Erases bank f g
DoesOperation (Erase bank) Failed f g = CutsErase bank f g
DoesOperation (Program bank place line) (Answered answer) f g = CutsProgram bank place line f g
DoesOperation (Program bank place line) Done f g = Programs bank place line f g
DoesOperation (Program bank place line) Failed f g = CutsProgram bank place line f g

-- the flash has so many places in a bank
pub record Performs (places : ℕ) (operation : Operation) (outcome : FlashOutcome) (f g : Flash) : Type 0 where
  pub does : DoesOperation operation outcome f g
  pub behind : BlankBehind places g

-- it is one of a flash of these sizes
abbrev pub IsWithinFlash : ℕ → ℕ → Operation → Type 0
IsWithinFlash banks places (Read bank place) = (bank < banks) × (place < places)
IsWithinFlash banks places (Erase bank) = bank < banks
IsWithinFlash banks places (Program bank place line) = (bank < banks) × (place < places)

-- only a blank place is programmed
abbrev pub MayBegin : Operation → Flash → Type 0
MayBegin (Read bank place) f = Unit {0}
MayBegin (Erase bank) f = Unit {0}
MayBegin (Program bank place line) f = f bank place ≡ blank_place
