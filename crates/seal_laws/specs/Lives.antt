-- All lives of a store on a part whose reads need not settle.
use Rattle.std.specs.Prelude.{◌≡◌, ◌⊎◌, ◌+◌, ◌<◌, ◌≤◌, ℕ, true, List, [], ◌∷◌, length, set}
use Rattle.seal_parts.specs.declared.PartClass.{PartClass}
use Rattle.seal_parts.specs.Parts.{PartFlash, PartView, ReadsUnits, blank_unit}
use Rattle.seal_parts.specs.Designs.{PartWrite, DoesPartWrites, CutsPartWrites}
use Rattle.seal_parts.specs.declared.UnitKind.{UnitKind}
use Rattle.seal_logs.specs.declared.starting.FoundStore.{FoundStore}
use Rattle.seal_logs.specs.declared.starting.StartEnd.{StartEnd}
use Rattle.seal_logs.specs.declared.starting.StartEnd.TheVariants.{Found}
use Rattle.seal_logs.specs.Starts.{StartFinds}
use Rattle.seal_laws.specs.declared.SealSizes.{SealSizes}
use Rattle.seal_laws.specs.declared.SealPoint.{SealPoint}
use Rattle.seal_laws.specs.Writes.{reads_of, put_writes, move_writes, start_writes, first_writes, started_at, put_on}
use Rattle.seal_laws.specs.Writes.{moved_on, FitsPut, FitsMove}

-- where a life stands: the power is off, or the store is ready, at a point of its log, and with these cells
pub data SealStage : Type 0 where
  seal_off : SealStage
  seal_ready : SealPoint → List (List ℕ) → SealStage

pub record SealMachine : Type 0 where
  pub flash : PartFlash
  pub stage : SealStage

-- What happens: a start; a put; all cells are made anew; or one of them fails, or the power goes within it; or the
-- power goes.
pub data SealEvent : Type 0 where
  starts : SealEvent
  puts_cell : (cell : ℕ) → (payload : List ℕ) → SealEvent
  makes_anew : (cells : List (List ℕ)) → SealEvent
  cuts_start : SealEvent
  cuts_puts : (cell : ℕ) → (payload : List ℕ) → SealEvent
  cuts_anew : (cells : List (List ℕ)) → SealEvent
  rests : SealEvent

-- A start reads each unit once, and decides on that alone.
pub record FindsSeal (class : PartClass) (s : SealSizes) (a : SealMachine) (end : StartEnd) (cells : List (List ℕ))
    (after : PartFlash) : Type 0 where
  pub was : a.stage ≡ seal_off
  pub view : PartView
  pub reads : ReadsUnits class a.flash view after
  pub finds : StartFinds s.log (reads_of class view) end cells

pub record StartsSeal (class : PartClass) (s : SealSizes) (a b : SealMachine) : Type 0 where
  pub found : FoundStore
  pub cells : List (List ℕ)
  pub between : PartFlash
  pub finds : FindsSeal class s a (Found found) cells between
  pub writes : DoesPartWrites class (start_writes class s found) between b.flash
  pub now : b.stage ≡ seal_ready (started_at s found found.latest.deed.body) cells

-- A start that is cut, or that fails: it has read some units, or all, and done some writes.
pub data CutsStartSeal (class : PartClass) (s : SealSizes) (a b : SealMachine) : Type 0 where
  cuts_reads : (view : PartView) → a.stage ≡ seal_off → ReadsUnits class a.flash view b.flash → b.stage ≡ seal_off
      → CutsStartSeal class s a b
  cuts_writes : (found : FoundStore) (cells : List (List ℕ)) (between : PartFlash)
      → FindsSeal class s a (Found found) cells between
      → CutsPartWrites class (start_writes class s found) between b.flash → b.stage ≡ seal_off
      → CutsStartSeal class s a b

-- these writes take the store from one point to the next
pub record WritesSeal (class : PartClass) (a b : SealMachine) (p later : SealPoint) (cells made : List (List ℕ))
    (writes : List PartWrite) : Type 0 where
  pub was : a.stage ≡ seal_ready p cells
  pub does : DoesPartWrites class writes a.flash b.flash
  pub now : b.stage ≡ seal_ready later made

pub record CutsSeal (class : PartClass) (a b : SealMachine) (p : SealPoint) (cells : List (List ℕ))
    (writes : List PartWrite) : Type 0 where
  pub was : a.stage ≡ seal_ready p cells
  pub cuts : CutsPartWrites class writes a.flash b.flash
  pub now : b.stage ≡ seal_off

-- a put goes to the next place, or into the copy of the next bank
pub data PutsSeal (class : PartClass) (s : SealSizes) (cell : ℕ) (payload : List ℕ)
    (a b : SealMachine) : Type 0 where
  goes_next : (p : SealPoint) (cells : List (List ℕ)) → FitsPut s p → cell < length cells
      → WritesSeal class a b p (put_on p) cells (set cells cell payload) (put_writes class p cell payload)
      → PutsSeal class s cell payload a b
  goes_on : (p : SealPoint) (cells : List (List ℕ)) → (FitsPut s p → ⊥) → FitsMove s p → cell < length cells
      → WritesSeal class a b p (moved_on s p) cells (set cells cell payload)
      (move_writes class s p (set cells cell payload))
      → PutsSeal class s cell payload a b

pub data CutsPutSeal (class : PartClass) (s : SealSizes) (cell : ℕ) (payload : List ℕ)
    (a b : SealMachine) : Type 0 where
  cuts_next : (p : SealPoint) (cells : List (List ℕ)) → FitsPut s p → cell < length cells
      → CutsSeal class a b p cells (put_writes class p cell payload) → CutsPutSeal class s cell payload a b
  cuts_on : (p : SealPoint) (cells : List (List ℕ)) → (FitsPut s p → ⊥) → FitsMove s p → cell < length cells
      → CutsSeal class a b p cells (move_writes class s p (set cells cell payload))
      → CutsPutSeal class s cell payload a b

pub record MakesAnewSeal (class : PartClass) (s : SealSizes) (made : List (List ℕ)) (a b : SealMachine) : Type 0 where
  pub point : SealPoint
  pub cells : List (List ℕ)
  pub fits : FitsMove s point
  pub count : length made ≡ length cells
  pub writes : WritesSeal class a b point (moved_on s point) cells made (move_writes class s point made)

pub record CutsAnewSeal (class : PartClass) (s : SealSizes) (made : List (List ℕ)) (a b : SealMachine) : Type 0 where
  pub point : SealPoint
  pub cells : List (List ℕ)
  pub fits : FitsMove s point
  pub count : length made ≡ length cells
  pub cuts : CutsSeal class a b point cells (move_writes class s point made)

abbrev pub DoesSealEvent : PartClass → SealSizes → SealEvent → SealMachine → SealMachine → Type 0
DoesSealEvent class s starts a b = StartsSeal class s a b
DoesSealEvent class s (puts_cell cell payload) a b = PutsSeal class s cell payload a b
DoesSealEvent class s (makes_anew made) a b = MakesAnewSeal class s made a b
DoesSealEvent class s cuts_start a b = CutsStartSeal class s a b
DoesSealEvent class s (cuts_puts cell payload) a b = CutsPutSeal class s cell payload a b
DoesSealEvent class s (cuts_anew made) a b = CutsAnewSeal class s made a b
DoesSealEvent class s rests a b = (b.flash ≡ a.flash) × (b.stage ≡ seal_off)

abbrev pub SealLives : PartClass → SealSizes → List SealEvent → SealMachine → SealMachine → Type 0
SealLives class s [] a c = c ≡ a
SealLives class s (event ∷ events) a c =
    (b : SealMachine) × (DoesSealEvent class s event a b × SealLives class s events b c)

-- only starts, done or cut, and losses of power
abbrev pub OnlyResets : List SealEvent → Type 0
OnlyResets [] = Unit {0}
OnlyResets (starts ∷ events) = OnlyResets events
OnlyResets (cuts_start ∷ events) = OnlyResets events
OnlyResets (rests ∷ events) = OnlyResets events
OnlyResets (event ∷ events) = ⊥

-- what an event may make of the cells: a put that was cut is there whole or not at all
abbrev pub MayMakeSeal : SealEvent → List (List ℕ) → List (List ℕ) → Type 0
MayMakeSeal (puts_cell cell payload) old new = new ≡ set old cell payload
MayMakeSeal (makes_anew made) old new = new ≡ made
MayMakeSeal (cuts_puts cell payload) old new = (new ≡ old) ⊎ (new ≡ set old cell payload)
MayMakeSeal (cuts_anew made) old new = (new ≡ old) ⊎ (new ≡ made)
MayMakeSeal event old new = new ≡ old

abbrev pub PossibleSeal : List SealEvent → List (List ℕ) → List (List ℕ) → Type 0
PossibleSeal [] old new = new ≡ old
PossibleSeal (event ∷ events) old new =
    (between : List (List ℕ)) × (MayMakeSeal event old between × PossibleSeal events between new)

-- sizes that a store may have
pub record FitsSeal (s : SealSizes) : Type 0 where
  pub two : 2 ≤ s.log.banks
  pub room : s.log.cells + 3 ≤ s.log.places

-- The first store, with these cells, was just made on a part all of whose banks were erased. No power was cut meanwhile.
pub record FormattedSeal (class : PartClass) (s : SealSizes) (cells : List (List ℕ)) (a : SealMachine) : Type 0 where
  pub fits : FitsSeal s
  pub count : length cells ≡ s.log.cells
  pub before : PartFlash
  pub blank : (bank k : ℕ) (kind : UnitKind) → before.unit bank k kind ≡ blank_unit
  pub erased : (bank : ℕ) → bank < s.log.banks → before.is_erased bank ≡ true
  pub writes : DoesPartWrites class (first_writes class s.log.cells cells) before a.flash
  pub off : a.stage ≡ seal_off
