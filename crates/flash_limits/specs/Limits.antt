-- A flash whose reads never settle, and what a store does on it.
use Rattle.std.specs.Prelude.{◌≡◌, ◌⊎◌, ◌<◌, ℕ, false, Option, None, List, [], ◌∷◌}
use Rattle.flash_places.specs.declared.FlashLine.{FlashLine}
use Rattle.flash_places.specs.Places.{FlashPlace, Flash, Erases, CutsErase, Programs, CutsProgram, blank_place}

-- what a start has read of each place
abbrev pub FlashView : Type 0
FlashView = ℕ → ℕ → Option FlashLine

-- A place is read as its content. If it isn't firm, it may be read as nothing, too: anew at each start, for ever.
abbrev pub PlaceMayBeRead : FlashPlace → Option FlashLine → Type 0
PlaceMayBeRead p answer = (answer ≡ p.content) ⊎ ((answer ≡ None) × (p.firm ≡ false))

abbrev pub MayBeRead : Flash → FlashView → Type 0
MayBeRead f view = (bank k : ℕ) → PlaceMayBeRead (f bank k) (view bank k)

abbrev pub SameView : FlashView → FlashView → Type 0
SameView v w = (bank k : ℕ) → w bank k ≡ v bank k

pub data FlashWrite : Type 0 where
  erases_bank : (bank : ℕ) → FlashWrite
  programs_place : (bank place : ℕ) → (line : FlashLine) → FlashWrite

-- A design of a store: what a life does that has read the flash so. It hands out a value, and then does these writes
-- for the put of a value that it is asked. Both depend on what it read and was asked alone.
pub record StoreDesign : Type 0 where
  pub hands : FlashView → ℕ
  pub writes : FlashView → ℕ → List FlashWrite
  pub hands_same : (v w : FlashView) → SameView v w → hands w ≡ hands v
  pub writes_same : (v w : FlashView) (value : ℕ) → SameView v w → writes w value ≡ writes v value

-- only a place that is blank is programmed
abbrev pub MayWrite : FlashWrite → Flash → Type 0
MayWrite (erases_bank bank) f = Unit {0}
MayWrite (programs_place bank place line) f = f bank place ≡ blank_place

abbrev pub DoesWrite : FlashWrite → Flash → Flash → Type 0
DoesWrite (erases_bank bank) f g = Erases bank f g
DoesWrite (programs_place bank place line) f g = Programs bank place line f g

abbrev pub CutsWrite : FlashWrite → Flash → Flash → Type 0
CutsWrite (erases_bank bank) f g = CutsErase bank f g
CutsWrite (programs_place bank place line) f g = CutsProgram bank place line f g

-- all of these writes are done
abbrev pub DoesWrites : List FlashWrite → Flash → Flash → Type 0
DoesWrites [] f h = h ≡ f
DoesWrites (write ∷ writes) f h = (g : Flash) × (DoesWrite write f g × DoesWrites writes g h)

-- some are done, and the power cuts the next one
abbrev pub CutsWrites : List FlashWrite → Flash → Flash → Type 0
CutsWrites [] f h = ⊥
CutsWrites (write ∷ writes) f h = CutsWrite write f h ⊎ ((g : Flash) × (DoesWrite write f g × CutsWrites writes g h))

-- each of them finds its place blank
abbrev pub MayDoWrites : List FlashWrite → Flash → Type 0
MayDoWrites [] f = Unit {0}
MayDoWrites (write ∷ writes) f = MayWrite write f × ((g : Flash) → DoesWrite write f g → MayDoWrites writes g)

-- A life: what it read, which put it was asked, and whether the power cut it.
pub data FlashLife : Type 0 where
  whole_life : (view : FlashView) → (value : ℕ) → FlashLife
  cut_life : (view : FlashView) → (value : ℕ) → FlashLife

abbrev pub LivesOnce : StoreDesign → FlashLife → Flash → Flash → Type 0
LivesOnce d (whole_life view value) f g = MayBeRead f view × DoesWrites (d.writes view value) f g
LivesOnce d (cut_life view value) f g = MayBeRead f view × CutsWrites (d.writes view value) f g

abbrev pub LivesOn : StoreDesign → List FlashLife → Flash → Flash → Type 0
LivesOn d [] f h = h ≡ f
LivesOn d (life ∷ lives) f h = (g : Flash) × (LivesOnce d life f g × LivesOn d lives g h)

-- in no life a place is programmed that isn't blank
abbrev pub ProgramsOnce : StoreDesign → Flash → Type 0
ProgramsOnce d start = (lives : List FlashLife) (f : Flash) (view : FlashView) (value : ℕ) → LivesOn d lives start f
    → MayBeRead f view → MayDoWrites (d.writes view value) f

-- a write is one to bank 0 or bank 1
abbrev pub WritesTwoBanks : List FlashWrite → Type 0
WritesTwoBanks [] = Unit {0}
WritesTwoBanks (erases_bank bank ∷ writes) = (bank < 2) × WritesTwoBanks writes
WritesTwoBanks (programs_place bank place line ∷ writes) = (bank < 2) × WritesTwoBanks writes

abbrev pub OnTwoBanks : StoreDesign → Type 0
OnTwoBanks d = (view : FlashView) (value : ℕ) → WritesTwoBanks (d.writes view value)

-- What a store owes, in all lives. A start never reads nothing of both banks. After a put that was done each start
-- hands out its value; if the next put was cut, that value or the next one.
pub record KeepsPuts (d : StoreDesign) (start : Flash) : Type 0 where
  pub found : (lives : List FlashLife) (f : Flash) (view : FlashView) → LivesOn d lives start f → MayBeRead f view
      → ((k : ℕ) → view 0 k ≡ None) → ((k : ℕ) → view 1 k ≡ None) → ⊥
  pub done : (lives : List FlashLife) (f g : Flash) (before view : FlashView) (value : ℕ) → LivesOn d lives start f
      → LivesOnce d (whole_life before value) f g → MayBeRead g view → d.hands view ≡ value
  pub cut : (lives : List FlashLife) (f g h : Flash) (before between view : FlashView) (value next : ℕ)
      → LivesOn d lives start f → LivesOnce d (whole_life before value) f g
      → LivesOnce d (cut_life between next) g h → MayBeRead h view → (d.hands view ≡ value) ⊎ (d.hands view ≡ next)
