-- A part by what it promises: units, what each operation makes of them, what is left if the power goes within it, and
-- as what they are read.
use Rattle.std.specs.Prelude.{◌≡◌, ◌≢◌, ◌⊎◌, ℕ, Bool, true, false, if◌then◌else◌, Option, Some, None}
use Rattle.seal_parts.specs.declared.PartClass.{PartClass}
use Rattle.seal_parts.specs.declared.PartClass.TheVariants.{Guards, Blanks, Settled}
use Rattle.seal_parts.specs.declared.UnitKind.{UnitKind}
use Rattle.seal_parts.specs.declared.UnitKind.TheVariants.{Guard, SecondGuard, Line}
use Rattle.seal_parts.specs.declared.UnitContent.{UnitContent}
use Rattle.seal_parts.specs.declared.UnitContent.TheVariants.{Mark, Holds}
use Rattle.seal_parts.specs.declared.UnitAnswer.{UnitAnswer}
use Rattle.seal_parts.specs.declared.UnitAnswer.TheVariants.{Whole, Blank, Nothing}

-- A unit is read as its content, or as nothing. If it is firm it is always read as its content; if it isn't, each read
-- may answer the content or nothing, anew. On a part of guards it is missed if the last read of it, since a cut left it
-- so, answered nothing.
pub record PartUnit : Type 0 where
  pub content : Option UnitContent
  pub firm : Bool
  pub missed : Bool

abbrev pub blank_unit : PartUnit
blank_unit = record { content = None; firm = true; missed = false }

abbrev pub whole_unit : UnitContent → PartUnit
whole_unit content = record { content = Some content; firm = true; missed = false }

-- The unit of this bank, place and kind; and whether the last erase of a bank was done, and not cut.
pub record PartFlash : Type 0 where
  pub unit : ℕ → ℕ → UnitKind → PartUnit
  pub is_erased : ℕ → Bool

abbrev pub IsGuard : UnitKind → Type 0
IsGuard Guard = Unit {0}
IsGuard SecondGuard = Unit {0}
IsGuard kind = ⊥

-- a line is programmed into the unit of the line, and a mark into each other one
abbrev pub FitsUnit : UnitKind → UnitContent → Type 0
FitsUnit Line (Holds line) = Unit {0}
FitsUnit Line Mark = ⊥
FitsUnit kind (Holds line) = ⊥
FitsUnit kind Mark = Unit {0}

-- ---- the first place of the class: what may be programmed

-- A unit that is blank, in a bank whose erase was done; and on a part of guards a guard again that was cut, if it isn't
-- read.
pub data MayProgram (class : PartClass) (kind : UnitKind) (f : PartFlash) (bank place : ℕ) : Type 0 where
  is_blank : f.is_erased bank ≡ true → f.unit bank place kind ≡ blank_unit → MayProgram class kind f bank place
  is_open : class ≡ Guards → IsGuard kind → f.is_erased bank ≡ true → (f.unit bank place kind).firm ≡ false
      → (f.unit bank place kind).missed ≡ true → MayProgram class kind f bank place

-- ---- operations, done and cut

pub record SameBanks (bank : ℕ) (f g : PartFlash) : Type 0 where
  pub units : (other k : ℕ) (kind : UnitKind) → other ≢ bank → g.unit other k kind ≡ f.unit other k kind
  pub erased : (other : ℕ) → other ≢ bank → g.is_erased other ≡ f.is_erased other

-- an erase that is done
pub record ErasesBank (bank : ℕ) (f g : PartFlash) : Type 0 where
  pub blank : (k : ℕ) (kind : UnitKind) → g.unit bank k kind ≡ blank_unit
  pub erased : g.is_erased bank ≡ true
  pub others : SameBanks bank f g

-- what a unit may have after an erase that was cut: its content or none; a mark may show though it was never programmed
pub data MayBeLeft (kind : UnitKind) (old new : Option UnitContent) : Type 0 where
  stays : new ≡ old → MayBeLeft kind old new
  goes : new ≡ None → MayBeLeft kind old new
  shows : FitsUnit kind Mark → new ≡ Some Mark → MayBeLeft kind old new

-- The power goes within an erase, or it fails: no unit of the bank need be firm.
pub record CutsBankErase (bank : ℕ) (f g : PartFlash) : Type 0 where
  pub left : (k : ℕ) (kind : UnitKind) → MayBeLeft kind (f.unit bank k kind).content (g.unit bank k kind).content
  pub erased : g.is_erased bank ≡ false
  pub others : SameBanks bank f g

-- all but this unit is as before
pub record SameButUnit (bank place : ℕ) (kind : UnitKind) (f g : PartFlash) : Type 0 where
  pub units : (other k : ℕ) (unit : UnitKind) → (other ≢ bank) ⊎ ((k ≢ place) ⊎ (unit ≢ kind))
      → g.unit other k unit ≡ f.unit other k unit
  pub erased : (other : ℕ) → g.is_erased other ≡ f.is_erased other

-- a program that is done
pub record ProgramsUnit (class : PartClass) (bank place : ℕ) (kind : UnitKind) (content : UnitContent)
    (f g : PartFlash) : Type 0 where
  pub may : MayProgram class kind f bank place
  pub fits : FitsUnit kind content
  pub now : g.unit bank place kind ≡ whole_unit content
  pub same : SameButUnit bank place kind f g

-- The power goes within a program, or it fails: the unit has the content or nothing, and need not be firm. No read has
-- missed it since.
pub record CutsProgramming (class : PartClass) (bank place : ℕ) (kind : UnitKind) (content : UnitContent)
    (f g : PartFlash) : Type 0 where
  pub may : MayProgram class kind f bank place
  pub fits : FitsUnit kind content
  pub left : ((g.unit bank place kind).content ≡ Some content) ⊎ ((g.unit bank place kind).content ≡ None)
  pub unread : (g.unit bank place kind).missed ≡ false
  pub same : SameButUnit bank place kind f g

-- ---- the second and the third place of the class: what is answered, and what a read leaves

-- nothing need be seen of it
abbrev pub MayBeUnseen : PartUnit → Type 0
MayBeUnseen u = (u.content ≡ None) ⊎ (u.firm ≡ false)

-- On a part of blanks `Blank` is answered of each blank unit of a bank whose erase was done, and of no other unit of
-- it.
pub data MayAnswer (class : PartClass) (erased : Bool) (u : PartUnit) (answer : UnitAnswer) : Type 0 where
  is_whole : (content : UnitContent) → u.content ≡ Some content → answer ≡ Whole content
      → MayAnswer class erased u answer
  is_told : class ≡ Blanks → MayBeUnseen u → (erased ≡ true → u ≡ blank_unit) → answer ≡ Blank
      → MayAnswer class erased u answer
  is_nothing : MayBeUnseen u → (class ≡ Blanks → erased ≡ true → u ≢ blank_unit) → answer ≡ Nothing
      → MayAnswer class erased u answer

-- nothing was answered
abbrev pub is_miss : UnitAnswer → Bool
is_miss Nothing = true
is_miss answer = false

-- A part of guards lets a guard that isn't firm be programmed again if the last read missed it. On a part of settled
-- reads a content that was read is firm from then on.
abbrev pub unit_after : PartClass → UnitAnswer → PartUnit → PartUnit
unit_after Guards answer u =
    if u.firm then u else record { content = u.content; firm = false; missed = is_miss answer }
unit_after Settled (Whole content) u = whole_unit content
unit_after class answer u = u

-- one unit is read
pub record ReadsUnit (class : PartClass) (bank place : ℕ) (kind : UnitKind) (answer : UnitAnswer)
    (f g : PartFlash) : Type 0 where
  pub may : MayAnswer class (f.is_erased bank) (f.unit bank place kind) answer
  pub now : g.unit bank place kind ≡ unit_after class answer (f.unit bank place kind)
  pub same : SameButUnit bank place kind f g

-- what a start has read: each unit once
abbrev pub PartView : Type 0
PartView = ℕ → ℕ → UnitKind → UnitAnswer

pub record ReadsUnits (class : PartClass) (f : PartFlash) (view : PartView) (g : PartFlash) : Type 0 where
  pub may : (bank k : ℕ) (kind : UnitKind) → MayAnswer class (f.is_erased bank) (f.unit bank k kind) (view bank k kind)
  pub now : (bank k : ℕ) (kind : UnitKind)
      → g.unit bank k kind ≡ unit_after class (view bank k kind) (f.unit bank k kind)
  pub erased : (bank : ℕ) → g.is_erased bank ≡ f.is_erased bank

pub record SamePart (f g : PartFlash) : Type 0 where
  pub units : (bank k : ℕ) (kind : UnitKind) → g.unit bank k kind ≡ f.unit bank k kind
  pub erased : (bank : ℕ) → g.is_erased bank ≡ f.is_erased bank
