-- What a call of a store does, as deeds of the machine.
use Rattle.std.specs.Prelude.{◌≡◌, ◌≤◌, ◌<◌, ℕ, suc, List, [], ◌∷◌, length, get_or}
use Rattle.flash_places.specs.declared.FlashLine.TheVariants.{Head, Entry}
use Rattle.flash_places.specs.Places.{Flash, blank_place, whole_place}
use Rattle.flash_places.specs.State.{FlashState}
use Rattle.flash_laws.specs.Logs.{CellList}
use Rattle.flash_laws.specs.Lives.{FlashLayout, FlashMachine, FlashStage, off, copying, ready, FlashDeed, FlashLives, DoesFlashDeed, MayMake, IsUp, next_bank}

abbrev pub machine : Flash → FlashStage → FlashMachine
machine f stage = record { flash = f; stage = stage }

-- a store of so many cells over this flash
abbrev pub layout_on : FlashState → ℕ → FlashLayout
layout_on s n = record { banks = s.banks; cells = n }

-- none of these deeds changes a cell
abbrev pub ChangesNoCell : List FlashDeed → Type 0
ChangesNoCell [] = Unit {0}
ChangesNoCell (deed ∷ deeds) = ((old new : CellList) → MayMake deed old new → new ≡ old) × ChangesNoCell deeds

-- deeds that change no cell lead from one machine to the other
pub record Goes (l : FlashLayout) (a b : FlashMachine) : Type 0 where
  pub deeds : List FlashDeed
  pub quiet : ChangesNoCell deeds
  pub lives : FlashLives l deeds a b

-- then this deed is done
pub record GoesAndDoes (l : FlashLayout) (deed : FlashDeed) (a c : FlashMachine) : Type 0 where
  pub between : FlashMachine
  pub goes : Goes l a between
  pub does : DoesFlashDeed l deed between c

-- all places from one on are blank
abbrev pub BlankFrom : Flash → ℕ → ℕ → Type 0
BlankFrom f bank at = (k : ℕ) → at ≤ k → f bank k ≡ blank_place

-- a bank holds a copy of these cells under a head of this generation, and nothing else
pub record HoldsCopy (f : Flash) (bank generation : ℕ) (cells : CellList) : Type 0 where
  pub head : f bank 0 ≡ whole_place (Head generation)
  pub copied : (i : ℕ) → i < length cells → f bank (suc i) ≡ whole_place (Entry i (get_or cells i []))
  pub free : BlankFrom f bank (suc (length cells))

-- from the log that counts a copy was made in the next bank
abbrev pub Renews : FlashLayout → ℕ → ℕ → CellList → Flash → Flash → Type 0
Renews l bank generation cells f g = (stage : FlashStage) → IsUp stage bank generation cells → Goes l (machine f stage)
    (machine g (ready (next_bank l.banks bank) (suc generation) cells (suc (length cells))))

-- the power went in between, or an operation failed
abbrev pub CutsRenew : FlashLayout → ℕ → ℕ → CellList → Flash → Flash → Type 0
CutsRenew l bank generation cells f g = (stage : FlashStage) → IsUp stage bank generation cells
    → Goes l (machine f stage) (machine g off)

abbrev pub Copying : FlashLayout → ℕ → ℕ → CellList → ℕ → Flash → Flash → Type 0
Copying l bank generation cells done f g =
    Goes l (machine f (copying bank generation cells 0)) (machine g (copying bank generation cells done))
