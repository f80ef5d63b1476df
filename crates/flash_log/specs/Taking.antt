-- What reading a bank leaves and finds.
use Rattle.std.specs.Prelude.{◌≡◌, ◌≢◌, ◌+◌, ◌-◌, ◌^◌, ◌<◌, ◌≤◌, ◌⊎◌, ℕ, suc, Option, Some, None, false, List, [], ◌∷◌, ◌++◌, length}
use Rattle.flash_places.specs.declared.FlashLine.{FlashLine}
use Rattle.flash_places.specs.declared.FlashLine.TheVariants.{Head, Entry}
use Rattle.flash_places.specs.declared.Answer.{Answer}
use Rattle.flash_places.specs.declared.Answer.TheVariants.{Whole, Blank, Nothing}
use Rattle.flash_places.specs.Places.{FlashPlace, Flash, Looks, SameButAt, blank_place, whole_place}
use Rattle.flash_laws.specs.Logs.{CellList, copy_lines, after_lines, IsLog}
use Rattle.flash_log.specs.declared.reading.LogEnd.{LogEnd}

-- one place is read for its line
pub record LooksLine (bank at : ℕ) (answer : Option FlashLine) (f g : Flash) : Type 0 where
  pub looks : Looks (f bank at) answer (g bank at)
  pub same : SameButAt bank at f g

abbrev pub places_behind : (ℕ → FlashPlace) → ℕ → FlashPlace
places_behind u k = u (suc k)

-- the first places were read, and answered these lines; the rest is as it was
abbrev pub Taken : (ℕ → FlashPlace) → (ℕ → FlashPlace) → List FlashLine → Type 0
Taken u v [] = (k : ℕ) → v k ≡ u k
Taken u v (line ∷ lines) = Looks (u 0) (Some line) (v 0) × Taken (places_behind u) (places_behind v) lines

-- a place is read as nothing
abbrev pub Ends : FlashPlace → Type 0
Ends p = (p ≡ blank_place) ⊎ (p.firm ≡ false)

-- from its first place on a bank has a copy of these cells
abbrev pub TakesCopy : (ℕ → FlashPlace) → (ℕ → FlashPlace) → CellList → Type 0
TakesCopy u v cells = Taken u v (copy_lines 0 cells)

-- it has none of n cells: at place i something else was read
pub record TakesNoCopy (n : ℕ) (u v : ℕ → FlashPlace) : Type 0 where
  pub lines : List FlashLine
  pub taken : Taken u v lines
  pub odd : (Ends (u (length lines)) × (length lines < n))
      ⊎ ((before : List FlashLine) × ((line : FlashLine) × ((lines ≡ before ++ line ∷ []) × ((length before < n)
      × ((payload : List ℕ) → line ≢ Entry (length before) payload)))))

-- so many places at most were read
pub record TakesSome (u v : ℕ → FlashPlace) : Type 0 where
  pub lines : List FlashLine
  pub taken : Taken u v lines

-- puts were read, and then nothing; they end before place `next`
pub record TakesPuts (n : ℕ) (u v : ℕ → FlashPlace) (before now : CellList) (next : ℕ) : Type 0 where
  pub puts : List FlashLine
  pub taken : Taken u v puts
  pub ends : Ends (u (length puts))
  pub made : now ≡ after_lines puts before
  pub place : 1 + n + length puts ≡ next

-- what a bank was read as: this log, or none
pub record ReadsLog (n : ℕ) (answer : Option LogEnd) (cells : CellList) (u v : ℕ → FlashPlace) : Type 0 where
  pub read : ℕ → Option FlashLine
  pub looks : (k : ℕ) → Looks (u k) (read k) (v k)
  pub is_log : (log : LogEnd) → answer ≡ Some log → IsLog n read log.generation cells log.next
  pub no_log : answer ≡ None → (generation : ℕ) (left : CellList) (end : ℕ) → IsLog n read generation left end → ⊥

-- it was read in part
pub record ReadsBankPart (u v : ℕ → FlashPlace) : Type 0 where
  pub read : ℕ → Option FlashLine
  pub looks : (k : ℕ) → Looks (u k) (read k) (v k)

abbrev pub from_place : Flash → ℕ → ℕ → ℕ → FlashPlace
from_place f bank at k = f bank (at + k)

-- the places from n + 1 on to this one were read, and these puts were made of the cells
pub record TakesTo (n place : ℕ) (bank : ℕ) (f g : Flash) (before now : CellList) : Type 0 where
  pub puts : List FlashLine
  pub taken : Taken (from_place f bank (1 + n)) (from_place g bank (1 + n)) puts
  pub count : 1 + n + length puts ≡ place
  pub made : now ≡ after_lines puts before

-- the last generation that a head can have
abbrev pub last_generation : ℕ
last_generation = 2 ^ 64 - 1

-- this place has no head of a later generation; the last generation says nothing
abbrev pub NoLaterHead : FlashPlace → ℕ → Type 0
NoLaterHead p latest = latest < last_generation → (g : ℕ) → p.content ≡ Some (Head g) → g ≤ latest

-- what is noted of a bank's first place: 0 if it is blank, and the generation of a head that is there and stays
pub record NotesHead (p : FlashPlace) (latest : ℕ) : Type 0 where
  pub none : p ≡ blank_place → latest ≡ 0
  pub head : (g : ℕ) → p ≡ whole_place (Head g) → latest ≡ g

-- what the answer of a bank's first place says of its head
abbrev pub latest_head : Answer → ℕ
latest_head (Whole (Head generation)) = generation
latest_head (Whole (Entry cell payload)) = 0
latest_head Blank = 0
latest_head Nothing = last_generation

-- the generation of the head that it is, if it is one
abbrev pub generation_in : Answer → Option ℕ
generation_in (Whole (Head generation)) = Some generation
generation_in (Whole (Entry cell payload)) = None
generation_in Blank = None
generation_in Nothing = None
