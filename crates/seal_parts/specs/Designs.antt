-- A design of a store on a part, and what it does in all lives.
use Rattle.std.specs.Prelude.{◌≡◌, ◌⊎◌, ℕ, Bool, false, None, List, [], ◌∷◌}
use Rattle.seal_parts.specs.declared.PartClass.{PartClass}
use Rattle.seal_parts.specs.declared.UnitKind.{UnitKind}
use Rattle.seal_parts.specs.declared.UnitContent.{UnitContent}
use Rattle.seal_parts.specs.Parts.{PartFlash, PartView, SameButUnit, MayProgram, FitsUnit, ErasesBank, CutsBankErase}
use Rattle.seal_parts.specs.Parts.{ProgramsUnit, CutsProgramming, ReadsUnits}

pub data PartWrite : Type 0 where
  erases_bank : (bank : ℕ) → PartWrite
  programs_unit : (bank place : ℕ) → (kind : UnitKind) → (content : UnitContent) → PartWrite

-- What a life does that has read the flash so. It hands out a value or says that a put was lost, and does these writes
-- for the put of a value that it is asked. All depend on what it read and was asked alone.
pub record PartDesign : Type 0 where
  pub hands : PartView → ℕ
  pub tells_loss : PartView → Bool
  pub writes : PartView → ℕ → List PartWrite
  pub same : (v w : PartView) (value : ℕ) → ((bank k : ℕ) (kind : UnitKind) → w bank k kind ≡ v bank k kind)
      → (hands w ≡ hands v) × ((tells_loss w ≡ tells_loss v) × (writes w value ≡ writes v value))

abbrev pub MayWritePart : PartClass → PartWrite → PartFlash → Type 0
MayWritePart class (erases_bank bank) f = Unit {0}
MayWritePart class (programs_unit bank place kind content) f =
    MayProgram class kind f bank place × FitsUnit kind content

abbrev pub DoesPartWrite : PartClass → PartWrite → PartFlash → PartFlash → Type 0
DoesPartWrite class (erases_bank bank) f g = ErasesBank bank f g
DoesPartWrite class (programs_unit bank place kind content) f g = ProgramsUnit class bank place kind content f g

abbrev pub CutsPartWrite : PartClass → PartWrite → PartFlash → PartFlash → Type 0
CutsPartWrite class (erases_bank bank) f g = CutsBankErase bank f g
CutsPartWrite class (programs_unit bank place kind content) f g = CutsProgramming class bank place kind content f g

-- all of these writes are done
abbrev pub DoesPartWrites : PartClass → List PartWrite → PartFlash → PartFlash → Type 0
DoesPartWrites class [] f h = h ≡ f
DoesPartWrites class (write ∷ writes) f h =
    (g : PartFlash) × (DoesPartWrite class write f g × DoesPartWrites class writes g h)

-- some are done, and the power cuts the next one
abbrev pub CutsPartWrites : PartClass → List PartWrite → PartFlash → PartFlash → Type 0
CutsPartWrites class [] f h = ⊥
CutsPartWrites class (write ∷ writes) f h =
    CutsPartWrite class write f h
    ⊎ ((g : PartFlash) × (DoesPartWrite class write f g × CutsPartWrites class writes g h))

-- each of them may be done when its turn comes
abbrev pub MayDoPartWrites : PartClass → List PartWrite → PartFlash → Type 0
MayDoPartWrites class [] f = Unit {0}
MayDoPartWrites class (write ∷ writes) f =
    MayWritePart class write f × ((g : PartFlash) → DoesPartWrite class write f g → MayDoPartWrites class writes g)

-- A life: what it read, which put it was asked, and whether the power cut it.
pub data PartLife : Type 0 where
  whole_life : (view : PartView) → (value : ℕ) → PartLife
  cut_life : (view : PartView) → (value : ℕ) → PartLife

abbrev pub LivesOnPart : PartClass → PartDesign → PartLife → PartFlash → PartFlash → Type 0
LivesOnPart class d (whole_life view value) f h =
    (g : PartFlash) × (ReadsUnits class f view g × DoesPartWrites class (d.writes view value) g h)
LivesOnPart class d (cut_life view value) f h =
    (g : PartFlash) × (ReadsUnits class f view g × CutsPartWrites class (d.writes view value) g h)

abbrev pub PartLives : PartClass → PartDesign → List PartLife → PartFlash → PartFlash → Type 0
PartLives class d [] f h = h ≡ f
PartLives class d (life ∷ lives) f h = (g : PartFlash) × (LivesOnPart class d life f g × PartLives class d lives g h)

-- in no life a unit is programmed that may not be
abbrev pub KeepsDuties : PartClass → PartDesign → PartFlash → Type 0
KeepsDuties class d start = (lives : List PartLife) (f g : PartFlash) (view : PartView) (value : ℕ)
    → PartLives class d lives start f → ReadsUnits class f view g → MayDoPartWrites class (d.writes view value) g

-- A start says that a put was lost only if one was: never on a flash that keeps its duties.
abbrev pub NoFalseAlarm : PartClass → PartDesign → PartFlash → Type 0
NoFalseAlarm class d start = (lives : List PartLife) (f g : PartFlash) (view : PartView)
    → PartLives class d lives start f → ReadsUnits class f view g → d.tells_loss view ≡ false

-- this unit has no content any more; all else is as before
pub record LosesUnit (bank place : ℕ) (kind : UnitKind) (f g : PartFlash) : Type 0 where
  pub now : (g.unit bank place kind).content ≡ None
  pub missed : (g.unit bank place kind).missed ≡ (f.unit bank place kind).missed
  pub same : SameButUnit bank place kind f g
