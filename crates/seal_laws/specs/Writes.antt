-- What a store reads of a part, and what it writes.
use Rattle.std.specs.Prelude.{◌+◌, ◌-◌, ◌<◌, ◌^◌, ℕ, zero, suc, Bool, true, false, nat_lt, if◌then◌else◌}
use Rattle.std.specs.Prelude.{Option, Some, None, List, [], ◌∷◌, ◌++◌}
use Rattle.seal_parts.specs.declared.PartClass.{PartClass}
use Rattle.seal_parts.specs.declared.PartClass.TheVariants.{Blanks}
use Rattle.seal_parts.specs.declared.UnitKind.TheVariants.{Guard, SecondGuard, Line, Confirm, SecondConfirm}
use Rattle.seal_parts.specs.declared.UnitContent.TheVariants.{Mark, Holds}
use Rattle.seal_parts.specs.declared.UnitAnswer.{UnitAnswer}
use Rattle.seal_parts.specs.declared.UnitAnswer.TheVariants.{Whole, Blank}
use Rattle.seal_parts.specs.declared.SealLine.{SealLine}
use Rattle.seal_parts.specs.declared.LineBody.TheVariants.{Copies, Does}
use Rattle.seal_parts.specs.declared.LogDeed.{LogDeed}
use Rattle.seal_parts.specs.declared.DeedBody.{DeedBody}
use Rattle.seal_parts.specs.declared.DeedBody.TheVariants.{Opens, Puts, Moves, IsNew}
use Rattle.seal_parts.specs.Parts.{PartView}
use Rattle.seal_parts.specs.Designs.{PartWrite, erases_bank, programs_unit}
use Rattle.seal_logs.specs.declared.starting.FoundStore.{FoundStore}
use Rattle.seal_logs.specs.Reads.{LogReads}
use Rattle.seal_laws.specs.declared.SealSizes.{SealSizes}
use Rattle.seal_laws.specs.declared.SealPoint.{SealPoint}

-- ---- what a start has read, place by place

abbrev pub reads_mark : UnitAnswer → Bool
reads_mark (Whole Mark) = true
reads_mark answer = false

abbrev pub line_read : UnitAnswer → Option SealLine
line_read (Whole (Holds line)) = Some line
line_read answer = None

-- A place may have been begun if a guard of it is read; on a part of blanks, if its line isn't told blank.
abbrev pub may_be_begun : PartClass → UnitAnswer → UnitAnswer → UnitAnswer → Bool
may_be_begun Blanks guard second Blank = false
may_be_begun Blanks guard second line = true
may_be_begun class guard second line = if reads_mark guard then true else reads_mark second

abbrev pub reads_of : PartClass → PartView → LogReads
reads_of class view bank k = record {
  line = line_read (view bank k Line);
  is_begun = may_be_begun class (view bank k Guard) (view bank k SecondGuard) (view bank k Line);
  is_confirmed = if reads_mark (view bank k Confirm) then true else reads_mark (view bank k SecondConfirm);
  is_closed = reads_mark (view bank k SecondConfirm);
}

-- ---- what it writes

-- a deed: its guards on a part of guards, its line, its confirms
abbrev pub deed_writes : PartClass → ℕ → ℕ → SealLine → List PartWrite
deed_writes Blanks bank k line =
    programs_unit bank k Line (Holds line) ∷ programs_unit bank k Confirm Mark
    ∷ programs_unit bank k SecondConfirm Mark ∷ []
deed_writes class bank k line =
    programs_unit bank k Guard Mark ∷ programs_unit bank k SecondGuard Mark ∷ programs_unit bank k Line (Holds line)
    ∷ programs_unit bank k Confirm Mark ∷ programs_unit bank k SecondConfirm Mark ∷ []

abbrev pub seal_line : ℕ → LogDeed → SealLine
seal_line generation deed = record { generation = generation; body = Does deed }

abbrev pub deed_of : Option ℕ → DeedBody → LogDeed
deed_of prev body = record { prev = prev; body = body }

-- the cells from this number on
abbrev pub cell_writes : ℕ → ℕ → ℕ → List (List ℕ) → List PartWrite
cell_writes bank generation i [] = []
cell_writes bank generation i (cell ∷ cells) =
    programs_unit bank i Line (Holds (record { generation = generation; body = Copies i cell }))
    ∷ cell_writes bank generation (suc i) cells

abbrev pub copy_writes : ℕ → ℕ → List (List ℕ) → List PartWrite
copy_writes bank generation cells = erases_bank bank ∷ cell_writes bank generation 0 cells

-- so many deeds that open the bank, from this place on
abbrev pub opening_writes : PartClass → ℕ → ℕ → ℕ → Option ℕ → ℕ → List PartWrite
opening_writes class bank generation next last zero = []
opening_writes class bank generation next last (suc count) =
    deed_writes class bank next (seal_line generation (deed_of last Opens))
    ++ opening_writes class bank generation (suc next) (Some next) count

abbrev pub last_after : ℕ → Option ℕ → ℕ → Option ℕ
last_after next last zero = last
last_after next last (suc count) = Some (next + count)

abbrev pub bank_after : ℕ → ℕ → ℕ
bank_after banks bank = if nat_lt (suc bank) banks then suc bank else 0

-- the deed of the old bank that makes the next one count
abbrev pub move_deed : SealSizes → SealPoint → LogDeed
move_deed s p =
    deed_of (last_after p.next p.last p.lacking) (Moves (bank_after s.log.banks p.bank) (suc p.generation))

-- a move to the next bank, with these cells
abbrev pub move_writes : PartClass → SealSizes → SealPoint → List (List ℕ) → List PartWrite
move_writes class s p cells =
    opening_writes class p.bank p.generation p.next p.last p.lacking
    ++ (copy_writes (bank_after s.log.banks p.bank) (suc p.generation) cells
    ++ deed_writes class p.bank (p.next + p.lacking) (seal_line p.generation (move_deed s p)))

abbrev pub put_deed : SealPoint → ℕ → List ℕ → LogDeed
put_deed p cell payload = deed_of p.last (Puts cell payload)

abbrev pub put_writes : PartClass → SealPoint → ℕ → List ℕ → List PartWrite
put_writes class p cell payload =
    deed_writes class p.bank p.next (seal_line p.generation (put_deed p cell payload))

-- A put goes to the next place if the deeds that a move needs still stand before the reserve after it.
abbrev pub FitsPut : SealSizes → SealPoint → Type 0
FitsPut s p = p.next + (p.lacking - 1) + s.reserve < s.log.places

-- a move finds a place for each of its deeds, and a generation
pub record FitsMove (s : SealSizes) (p : SealPoint) : Type 0 where
  pub place : p.next + p.lacking < s.log.places
  pub generation : suc p.generation < 2 ^ 64

-- the latest deed again, unless the end is clean
abbrev pub restate_writes : PartClass → FoundStore → List PartWrite
restate_writes class f =
    if f.is_clean then []
    else deed_writes class f.latest.bank f.next (seal_line f.latest.generation f.latest.deed)

-- and, after a move, the deed that opens its home, if that may have been begun
abbrev pub open_writes : PartClass → SealSizes → FoundStore → DeedBody → List PartWrite
open_writes class s f (Moves to next) =
    if nat_lt s.log.cells f.home_next
    then deed_writes class f.home f.home_next (seal_line f.generation (deed_of None Opens)) else []
open_writes class s f body = []

-- what a start writes: nothing after a clean end
abbrev pub start_writes : PartClass → SealSizes → FoundStore → List PartWrite
start_writes class s f = restate_writes class f ++ open_writes class s f f.latest.deed.body

-- The first store of a blank part: two deeds in bank 0 say that there is none yet, and then it moves to bank 1.
abbrev pub first_writes : PartClass → ℕ → List (List ℕ) → List PartWrite
first_writes class next cells =
    deed_writes class 0 next (seal_line 1 (deed_of None IsNew))
    ++ (deed_writes class 0 (suc next) (seal_line 1 (deed_of (Some next) IsNew))
    ++ (copy_writes 1 2 cells
    ++ deed_writes class 0 (suc (suc next)) (seal_line 1 (deed_of (Some (suc next)) (Moves 1 2)))))

-- how many banks they erase
abbrev pub erases_begun_by : List PartWrite → ℕ
erases_begun_by [] = 0
erases_begun_by (erases_bank bank ∷ writes) = suc (erases_begun_by writes)
erases_begun_by (programs_unit bank place kind content ∷ writes) = erases_begun_by writes

-- ---- where it stands then

abbrev pub point_at : ℕ → ℕ → ℕ → Option ℕ → ℕ → SealPoint
point_at bank generation next last lacking =
    record { bank = bank; generation = generation; next = next; last = last; lacking = lacking }

-- where the latest deed stands after a start
abbrev pub place_now : FoundStore → ℕ
place_now f = if f.is_clean then f.latest.place else f.next

abbrev pub started_at : SealSizes → FoundStore → DeedBody → SealPoint
started_at s f (Moves to next) =
    if nat_lt s.log.cells f.home_next then point_at f.home f.generation (suc f.home_next) (Some f.home_next) 1
    else point_at f.home f.generation f.home_next None 2
started_at s f body = point_at f.home f.generation (suc (place_now f)) (Some (place_now f)) f.lacking

-- after a put, and after a move
abbrev pub put_on : SealPoint → SealPoint
put_on p = point_at p.bank p.generation (suc p.next) (Some p.next) (p.lacking - 1)

abbrev pub moved_on : SealSizes → SealPoint → SealPoint
moved_on s p = point_at (bank_after s.log.banks p.bank) (suc p.generation) s.log.cells None 2
