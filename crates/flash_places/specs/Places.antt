-- Flash: banks of places, what each operation makes of them, and what is left if the power goes within it.
use Rattle.std.specs.Prelude.{◌≡◌, ◌≢◌, ◌⊎◌, ℕ, Bool, true, false, Option, Some, None}
use Rattle.flash_places.specs.declared.Answer.{Answer}
use Rattle.flash_places.specs.declared.Answer.TheVariants.{Whole, Blank, Nothing}
use Rattle.flash_places.specs.declared.FlashLine.{FlashLine}

-- A place is read as its content, or as nothing. If it is firm it is always read as its content; if it isn't, each read
-- may answer the content or nothing, anew.
pub record FlashPlace : Type 0 where
  pub content : Option FlashLine
  pub firm : Bool

-- what an erase leaves, and what may be programmed
abbrev pub blank_place : FlashPlace
blank_place = record { content = None; firm = true }

-- what a program leaves
abbrev pub whole_place : FlashLine → FlashPlace
whole_place line = record { content = Some line; firm = true }

-- the place of this number in the bank of this number
abbrev pub Flash : Type 0
Flash = ℕ → ℕ → FlashPlace

abbrev pub SameBank : ℕ → Flash → Flash → Type 0
SameBank bank f g = (k : ℕ) → g bank k ≡ f bank k

abbrev pub SameOthers : ℕ → Flash → Flash → Type 0
SameOthers bank f g = (other : ℕ) → other ≢ bank → SameBank other f g

abbrev pub SameFlash : Flash → Flash → Type 0
SameFlash f g = (bank : ℕ) → SameBank bank f g

-- an erase that is done
pub record Erases (bank : ℕ) (f g : Flash) : Type 0 where
  pub erased : (k : ℕ) → g bank k ≡ blank_place
  pub others : SameOthers bank f g

-- The power goes within an erase, or it fails: each place of the bank has its content or none, and none need be firm.
pub record CutsErase (bank : ℕ) (f g : Flash) : Type 0 where
  pub left : (k : ℕ) → ((g bank k).content ≡ (f bank k).content) ⊎ ((g bank k).content ≡ None)
  pub others : SameOthers bank f g

-- all but this place of this bank is as before
pub record SameButAt (bank at : ℕ) (f g : Flash) : Type 0 where
  pub rest : (k : ℕ) → k ≢ at → g bank k ≡ f bank k
  pub others : SameOthers bank f g

-- a program that is done: the place was blank, and holds the line
pub record Programs (bank at : ℕ) (line : FlashLine) (f g : Flash) : Type 0 where
  pub was : f bank at ≡ blank_place
  pub now : g bank at ≡ whole_place line
  pub same : SameButAt bank at f g

-- The power goes within a program, or it fails: the place has the line or nothing, and need not be firm.
pub record CutsProgram (bank at : ℕ) (line : FlashLine) (f g : Flash) : Type 0 where
  pub was : f bank at ≡ blank_place
  pub left : ((g bank at).content ≡ Some line) ⊎ ((g bank at).content ≡ None)
  pub same : SameButAt bank at f g

-- A checked read. A line that it answers is there, and stays: the place is firm from then on. If it answers nothing,
-- the place is blank or not firm, and is as before.
pub data Looks (p : FlashPlace) (answer : Option FlashLine) (q : FlashPlace) : Type 0 where
  sees : (line : FlashLine) → p.content ≡ Some line → answer ≡ Some line → q ≡ whole_place line → Looks p answer q
  sees_nothing : ((p ≡ blank_place) ⊎ (p.firm ≡ false)) → answer ≡ None → q ≡ p → Looks p answer q

-- every place is read once
abbrev pub LooksAll : Flash → (ℕ → ℕ → Option FlashLine) → Flash → Type 0
LooksAll f read g = (bank k : ℕ) → Looks (f bank k) (read bank k) (g bank k)

-- the line of an answer
abbrev pub line_in : Answer → Option FlashLine
line_in (Whole line) = Some line
line_in Blank = None
line_in Nothing = None

-- one place is read, and what says blank is blank
pub record LooksAt (bank at : ℕ) (answer : Answer) (f g : Flash) : Type 0 where
  pub looks : Looks (f bank at) (line_in answer) (g bank at)
  pub is_blank : answer ≡ Blank → f bank at ≡ blank_place
  pub same : SameButAt bank at f g
