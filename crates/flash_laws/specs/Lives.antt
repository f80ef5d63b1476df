-- All lives of a store on flash: what it does with the device, one step after the other, and when the power goes.
use Rattle.std.specs.Prelude.{◌≡◌, ◌≢◌, ℕ, suc, ◌+◌, ◌-◌, ◌<◌, ◌≤◌, ◌⊎◌, nat_eq, if◌then◌else◌, Option, Some, List, [], ◌∷◌, length, set, get_or}
use Rattle.flash_places.specs.declared.FlashLine.{FlashLine}
use Rattle.flash_places.specs.declared.FlashLine.TheVariants.{Head, Entry}
use Rattle.flash_places.specs.Places.{Flash, FlashPlace, SameFlash, blank_place, whole_place, Erases, CutsErase, Programs, CutsProgram, LooksAll}
use Rattle.flash_laws.specs.Logs.{CellList, IsLog}

-- how many banks the store goes round, and how many cells it has
pub record FlashLayout : Type 0 where
  pub banks : ℕ
  pub cells : ℕ

-- The bank that takes the next copy: the banks go round, downwards. So a start that reads them upwards meets the latest
-- log after at most one other whose cells it needs.
abbrev pub next_bank : ℕ → ℕ → ℕ
next_bank banks bank = if nat_eq bank 0 then banks - 1 else bank - 1

-- Where a life stands: the power is off; the log that counts was found in this bank, and ends before a place; a copy of
-- its cells is being made in the next bank, and has so many cells; or the store is ready, and the next put goes to a
-- place.
pub data FlashStage : Type 0 where
  off : FlashStage
  found : (bank generation : ℕ) → (cells : CellList) → (next : ℕ) → FlashStage
  copying : (bank generation : ℕ) → (cells : CellList) → (done : ℕ) → FlashStage
  ready : (bank generation : ℕ) → (cells : CellList) → (next : ℕ) → FlashStage

pub record FlashMachine : Type 0 where
  pub flash : Flash
  pub stage : FlashStage

-- What happens. The power comes back, and all banks are read; the store goes on in the log that it found; the next bank
-- is erased; a cell is copied to it; its head is programmed; a put is done; or the power goes: while the banks are
-- read, within an erase, a copy, a head or a put, or in between.
pub data FlashDeed : Type 0 where
  scans : FlashDeed
  resumes : FlashDeed
  erases : (bank : ℕ) → FlashDeed
  copies : FlashDeed
  heads : FlashDeed
  puts : (cell : ℕ) → (payload : List ℕ) → FlashDeed
  cuts_scan : FlashDeed
  cuts_erase : (bank : ℕ) → FlashDeed
  cuts_copy : FlashDeed
  cuts_head : FlashDeed
  cuts_put : (cell : ℕ) → (payload : List ℕ) → FlashDeed
  cuts : FlashDeed

-- the log with the highest generation is the one that counts
pub record LogCounts (l : FlashLayout) (read : ℕ → ℕ → Option FlashLine) (bank generation : ℕ) (cells : CellList)
    (next : ℕ) : Type 0 where
  pub inside : bank < l.banks
  pub log : IsLog l.cells (read bank) generation cells next
  pub wins : (other g : ℕ) (left : CellList) (end : ℕ) → other < l.banks → other ≢ bank
      → IsLog l.cells (read other) g left end → g < generation

-- a scan that was read so finds a log that counts
pub record ScanFinds (l : FlashLayout) (read : ℕ → ℕ → Option FlashLine) : Type 0 where
  pub bank : ℕ
  pub generation : ℕ
  pub cells : CellList
  pub next : ℕ
  pub counts : LogCounts l read bank generation cells next

pub record Scans (l : FlashLayout) (a b : FlashMachine) : Type 0 where
  pub was : a.stage ≡ off
  pub read : ℕ → ℕ → Option FlashLine
  pub looks : LooksAll a.flash read b.flash
  pub bank : ℕ
  pub generation : ℕ
  pub cells : CellList
  pub next : ℕ
  pub counts : LogCounts l read bank generation cells next
  pub now : b.stage ≡ found bank generation cells next

pub record CutsScan (a b : FlashMachine) : Type 0 where
  pub was : a.stage ≡ off
  pub read : ℕ → ℕ → Option FlashLine
  pub looks : LooksAll a.flash read b.flash
  pub now : b.stage ≡ off

-- a bank has no head, or that of an older log
abbrev pub IsOlder : (ℕ → FlashPlace) → ℕ → Type 0
IsOlder places generation = (g : ℕ) → (places 0).content ≡ Some (Head g) → g < generation

-- The store goes on in the log that was found, without an erase. It may do so only if all places behind the log are
-- blank for sure, and the next bank's head is blank or was read: so a part whose blank check isn't believed never does.
pub record Resumes (l : FlashLayout) (a b : FlashMachine) : Type 0 where
  pub bank : ℕ
  pub generation : ℕ
  pub cells : CellList
  pub next : ℕ
  pub was : a.stage ≡ found bank generation cells next
  pub free : (k : ℕ) → next ≤ k → a.flash bank k ≡ blank_place
  pub older : IsOlder (a.flash (next_bank l.banks bank)) generation
  pub same : SameFlash a.flash b.flash
  pub now : b.stage ≡ ready bank generation cells next

-- the log that counts is in this bank
pub data IsUp (stage : FlashStage) (bank generation : ℕ) (cells : CellList) : Type 0 where
  was_found : (next : ℕ) → stage ≡ found bank generation cells next → IsUp stage bank generation cells
  was_ready : (next : ℕ) → stage ≡ ready bank generation cells next → IsUp stage bank generation cells

pub record ErasesNext (l : FlashLayout) (target : ℕ) (a b : FlashMachine) : Type 0 where
  pub bank : ℕ
  pub generation : ℕ
  pub cells : CellList
  pub up : IsUp a.stage bank generation cells
  pub is_next : target ≡ next_bank l.banks bank
  pub does : Erases target a.flash b.flash
  pub now : b.stage ≡ copying bank generation cells 0

pub record CutsErasing (l : FlashLayout) (target : ℕ) (a b : FlashMachine) : Type 0 where
  pub bank : ℕ
  pub generation : ℕ
  pub cells : CellList
  pub up : IsUp a.stage bank generation cells
  pub is_next : target ≡ next_bank l.banks bank
  pub does : CutsErase target a.flash b.flash
  pub now : b.stage ≡ off

pub record CopiesCell (l : FlashLayout) (a b : FlashMachine) : Type 0 where
  pub bank : ℕ
  pub generation : ℕ
  pub cells : CellList
  pub done : ℕ
  pub was : a.stage ≡ copying bank generation cells done
  pub below : done < length cells
  pub does : Programs (next_bank l.banks bank) (suc done) (Entry done (get_or cells done [])) a.flash b.flash
  pub now : b.stage ≡ copying bank generation cells (suc done)

pub record CutsCopying (l : FlashLayout) (a b : FlashMachine) : Type 0 where
  pub bank : ℕ
  pub generation : ℕ
  pub cells : CellList
  pub done : ℕ
  pub was : a.stage ≡ copying bank generation cells done
  pub below : done < length cells
  pub does : CutsProgram (next_bank l.banks bank) (suc done) (Entry done (get_or cells done [])) a.flash b.flash
  pub now : b.stage ≡ off

-- the head is programmed last, and makes the copy the log that counts
pub record WritesHead (l : FlashLayout) (a b : FlashMachine) : Type 0 where
  pub bank : ℕ
  pub generation : ℕ
  pub cells : CellList
  pub was : a.stage ≡ copying bank generation cells (length cells)
  pub does : Programs (next_bank l.banks bank) 0 (Head (suc generation)) a.flash b.flash
  pub now : b.stage ≡ ready (next_bank l.banks bank) (suc generation) cells (suc (length cells))

pub record CutsHead (l : FlashLayout) (a b : FlashMachine) : Type 0 where
  pub bank : ℕ
  pub generation : ℕ
  pub cells : CellList
  pub was : a.stage ≡ copying bank generation cells (length cells)
  pub does : CutsProgram (next_bank l.banks bank) 0 (Head (suc generation)) a.flash b.flash
  pub now : b.stage ≡ off

pub record PutsCell (cell : ℕ) (payload : List ℕ) (a b : FlashMachine) : Type 0 where
  pub bank : ℕ
  pub generation : ℕ
  pub cells : CellList
  pub next : ℕ
  pub was : a.stage ≡ ready bank generation cells next
  pub does : Programs bank next (Entry cell payload) a.flash b.flash
  pub now : b.stage ≡ ready bank generation (set cells cell payload) (suc next)

pub record CutsPut (cell : ℕ) (payload : List ℕ) (a b : FlashMachine) : Type 0 where
  pub bank : ℕ
  pub generation : ℕ
  pub cells : CellList
  pub next : ℕ
  pub was : a.stage ≡ ready bank generation cells next
  pub does : CutsProgram bank next (Entry cell payload) a.flash b.flash
  pub now : b.stage ≡ off

pub record CutsBetween (a b : FlashMachine) : Type 0 where
  pub same : SameFlash a.flash b.flash
  pub now : b.stage ≡ off

abbrev pub DoesFlashDeed : FlashLayout → FlashDeed → FlashMachine → FlashMachine → Type 0
DoesFlashDeed l scans a b = Scans l a b
DoesFlashDeed l resumes a b = Resumes l a b
DoesFlashDeed l (erases bank) a b = ErasesNext l bank a b
DoesFlashDeed l copies a b = CopiesCell l a b
DoesFlashDeed l heads a b = WritesHead l a b
DoesFlashDeed l (puts cell payload) a b = PutsCell cell payload a b
DoesFlashDeed l cuts_scan a b = CutsScan a b
DoesFlashDeed l (cuts_erase bank) a b = CutsErasing l bank a b
DoesFlashDeed l cuts_copy a b = CutsCopying l a b
DoesFlashDeed l cuts_head a b = CutsHead l a b
DoesFlashDeed l (cuts_put cell payload) a b = CutsPut cell payload a b
DoesFlashDeed l cuts a b = CutsBetween a b

-- one after the other
abbrev pub FlashLives : FlashLayout → List FlashDeed → FlashMachine → FlashMachine → Type 0
FlashLives l [] a c = c ≡ a
FlashLives l (deed ∷ deeds) a c = (b : FlashMachine) × (DoesFlashDeed l deed a b × FlashLives l deeds b c)

-- What a deed may make of the cells. A put that is done is there. One that the power cut into is there whole or not at
-- all. No other deed changes the cells.
abbrev pub MayMake : FlashDeed → CellList → CellList → Type 0
MayMake scans old new = new ≡ old
MayMake resumes old new = new ≡ old
MayMake (erases bank) old new = new ≡ old
MayMake copies old new = new ≡ old
MayMake heads old new = new ≡ old
MayMake (puts cell payload) old new = new ≡ set old cell payload
MayMake cuts_scan old new = new ≡ old
MayMake (cuts_erase bank) old new = new ≡ old
MayMake cuts_copy old new = new ≡ old
MayMake cuts_head old new = new ≡ old
MayMake (cuts_put cell payload) old new = (new ≡ old) ⊎ (new ≡ set old cell payload)
MayMake cuts old new = new ≡ old

-- what these cells may be after these deeds
abbrev pub Possible : List FlashDeed → CellList → CellList → Type 0
Possible [] old new = new ≡ old
Possible (deed ∷ deeds) old new = (between : CellList) × (MayMake deed old between × Possible deeds between new)

pub record IsReadyFlash (a : FlashMachine) (cells : CellList) : Type 0 where
  pub bank : ℕ
  pub generation : ℕ
  pub next : ℕ
  pub is : a.stage ≡ ready bank generation cells next

abbrev pub IsOff : FlashMachine → Type 0
IsOff a = a.stage ≡ off

-- A flash that was formatted with these cells, and not powered up since: bank 0 holds their log, and the first place of
-- each other bank is blank.
pub record FlashFormatted (l : FlashLayout) (cells : CellList) (a : FlashMachine) : Type 0 where
  pub two : 2 ≤ l.banks
  pub count : length cells ≡ l.cells
  pub generation : ℕ
  pub head : a.flash 0 0 ≡ whole_place (Head generation)
  pub copied : (i : ℕ) → i < l.cells → a.flash 0 (suc i) ≡ whole_place (Entry i (get_or cells i []))
  pub ends : a.flash 0 (suc l.cells) ≡ blank_place
  pub spare : (bank : ℕ) → bank < l.banks → bank ≢ 0 → a.flash bank 0 ≡ blank_place
  pub is_off : a.stage ≡ off

-- the place that is programmed next is blank
pub record PlaceIsBlank (l : FlashLayout) (a : FlashMachine) : Type 0 where
  pub copy : (bank generation : ℕ) (cells : CellList) (done : ℕ)
      → a.stage ≡ copying bank generation cells done → a.flash (next_bank l.banks bank) (suc done) ≡ blank_place
  pub head : (bank generation : ℕ) (cells : CellList) (done : ℕ)
      → a.stage ≡ copying bank generation cells done → a.flash (next_bank l.banks bank) 0 ≡ blank_place
  pub put : (bank generation : ℕ) (cells : CellList) (next : ℕ)
      → a.stage ≡ ready bank generation cells next → a.flash bank next ≡ blank_place

-- how many erases of this bank a deed begins: the power may go within one, and it wears the bank all the same
abbrev pub erases_begun : ℕ → FlashDeed → ℕ
erases_begun bank scans = 0
erases_begun bank resumes = 0
erases_begun bank (erases target) = if nat_eq bank target then 1 else 0
erases_begun bank copies = 0
erases_begun bank heads = 0
erases_begun bank (puts cell payload) = 0
erases_begun bank cuts_scan = 0
erases_begun bank (cuts_erase target) = if nat_eq bank target then 1 else 0
erases_begun bank cuts_copy = 0
erases_begun bank cuts_head = 0
erases_begun bank (cuts_put cell payload) = 0
erases_begun bank cuts = 0

-- how many copies a deed begins, by an erase
abbrev pub copy_begun : FlashDeed → ℕ
copy_begun scans = 0
copy_begun resumes = 0
copy_begun (erases target) = 1
copy_begun copies = 0
copy_begun heads = 0
copy_begun (puts cell payload) = 0
copy_begun cuts_scan = 0
copy_begun (cuts_erase target) = 1
copy_begun cuts_copy = 0
copy_begun cuts_head = 0
copy_begun (cuts_put cell payload) = 0
copy_begun cuts = 0

-- how many copies it ends, by the program of their head
abbrev pub copy_done : FlashDeed → ℕ
copy_done scans = 0
copy_done resumes = 0
copy_done (erases target) = 0
copy_done copies = 0
copy_done heads = 1
copy_done (puts cell payload) = 0
copy_done cuts_scan = 0
copy_done (cuts_erase target) = 0
copy_done cuts_copy = 0
copy_done cuts_head = 0
copy_done (cuts_put cell payload) = 0
copy_done cuts = 0

abbrev pub wear_of : ℕ → List FlashDeed → ℕ
wear_of bank [] = 0
wear_of bank (deed ∷ deeds) = erases_begun bank deed + wear_of bank deeds

abbrev pub copies_begun : List FlashDeed → ℕ
copies_begun [] = 0
copies_begun (deed ∷ deeds) = copy_begun deed + copies_begun deeds

abbrev pub copies_done : List FlashDeed → ℕ
copies_done [] = 0
copies_done (deed ∷ deeds) = copy_done deed + copies_done deeds
