-- What is known of the banks that a scan has read.
use Rattle.std.specs.Prelude.{◌≡◌, ◌≢◌, ◌<◌, ◌≤◌, ℕ, Bool, true, false, nat_lt, nat_eq, if◌then◌else◌, Option, List, get_or}
use Rattle.flash_places.specs.declared.FlashLine.{FlashLine}
use Rattle.flash_places.specs.Places.{Flash, SameBank, LooksAll}
use Rattle.flash_laws.specs.Logs.{CellList, IsLog}
use Rattle.flash_laws.specs.Lives.{FlashLayout, ScanFinds}
use Rattle.flash_log.specs.Going.{BlankFrom}
use Rattle.flash_log.specs.Taking.{NoLaterHead, NotesHead}
use Rattle.flash_log.specs.declared.reading.LogEnd.{LogEnd}
use Rattle.flash_log.specs.declared.scanning.FoundLog.{FoundLog}
use Rattle.flash_log.specs.declared.scanning.Best.{Best}
use Rattle.flash_log.specs.declared.scanning.Best.TheVariants.{NoLog, One, Tie}

-- one bank more has this log: which is the best then
abbrev pub found_at : ℕ → LogEnd → FoundLog
found_at bank log = record { bank = bank; generation = log.generation; next = log.next; is_free = log.is_free }

abbrev pub judged : Best → ℕ → LogEnd → Best
judged NoLog bank log = One (found_at bank log)
judged (One old) bank log =
    if nat_lt old.generation log.generation then One (found_at bank log)
    else (if nat_eq old.generation log.generation then Tie log.generation else One old)
judged (Tie generation) bank log = if nat_lt generation log.generation then One (found_at bank log) else Tie generation

-- whether it is the new one
abbrev pub is_newest : Best → LogEnd → Bool
is_newest NoLog log = true
is_newest (One old) log = nat_lt old.generation log.generation
is_newest (Tie generation) log = nat_lt generation log.generation

-- a log of this generation is older than the best
abbrev pub is_past : Best → ℕ → Bool
is_past NoLog generation = false
is_past (One log) generation = nat_lt generation log.generation
is_past (Tie tie) generation = nat_lt generation tie

-- these banks have no log
abbrev pub HaveNone : ℕ → (ℕ → ℕ → Option FlashLine) → ℕ → Type 0
HaveNone n read count = (x g : ℕ) (left : CellList) (end : ℕ) → x < count → IsLog n (read x) g left end → ⊥

-- one of them has this log, and it is later than every other
pub record HaveOne (n : ℕ) (read : ℕ → ℕ → Option FlashLine) (count : ℕ) (log : FoundLog) (cells : CellList) : Type 0 where
  pub inside : log.bank < count
  pub is : IsLog n (read log.bank) log.generation cells log.next
  pub wins : (x g : ℕ) (left : CellList) (end : ℕ) → x < count → x ≢ log.bank → IsLog n (read x) g left end
      → g < log.generation

-- a bank has a log of this generation
pub record HasLog (n : ℕ) (read : ℕ → Option FlashLine) (generation : ℕ) : Type 0 where
  pub cells : CellList
  pub next : ℕ
  pub is : IsLog n read generation cells next

-- two of them have logs of one generation, and none has a later one
pub record HaveTwo (n : ℕ) (read : ℕ → ℕ → Option FlashLine) (count generation : ℕ) : Type 0 where
  pub one : ℕ
  pub other : ℕ
  pub differ : one ≢ other
  pub one_inside : one < count
  pub other_inside : other < count
  pub one_log : HasLog n (read one) generation
  pub other_log : HasLog n (read other) generation
  pub most : (x g : ℕ) (left : CellList) (end : ℕ) → x < count → IsLog n (read x) g left end → g ≤ generation

abbrev pub BestIs : ℕ → (ℕ → ℕ → Option FlashLine) → ℕ → Best → CellList → Type 0
BestIs n read count NoLog cells = HaveNone n read count
BestIs n read count (One log) cells = HaveOne n read count log cells
BestIs n read count (Tie generation) cells = HaveTwo n read count generation

-- if the best log says that its bank is free behind it, it is
abbrev pub FreeBest : Flash → Best → Type 0
FreeBest f NoLog = Unit {0}
FreeBest f (One log) = log.is_free ≡ true → BlankFrom f log.bank log.next
FreeBest f (Tie generation) = Unit {0}

-- if the best log's bank is free behind it, the log says so
abbrev pub ToldBest : Flash → Best → Type 0
ToldBest f NoLog = Unit {0}
ToldBest f (One log) = BlankFrom f log.bank log.next → log.is_free ≡ true
ToldBest f (Tie generation) = Unit {0}

abbrev pub NotesHeads : Flash → ℕ → List ℕ → Type 0
NotesHeads f count latest = (x : ℕ) → x < count → NotesHead (f x 0) (get_or latest x 0)

-- these banks have no head of a later generation than what is noted of them
abbrev pub NoLaterHeads : Flash → ℕ → List ℕ → Type 0
NoLaterHeads f count latest = (x : ℕ) → x < count → NoLaterHead (f x 0) (get_or latest x 0)

-- the banks below this one were read, and this is the best of them
pub record ScannedTo (n count : ℕ) (f g : Flash) (best : Best) (cells : CellList) : Type 0 where
  pub read : ℕ → ℕ → Option FlashLine
  pub looks : LooksAll f read g
  pub is : BestIs n read count best cells
  pub rest : (x : ℕ) → count ≤ x → SameBank x f g

-- all banks were read, and no log counts
pub record NoLogCounts (l : FlashLayout) (f g : Flash) : Type 0 where
  pub read : ℕ → ℕ → Option FlashLine
  pub looks : LooksAll f read g
  pub none : ScanFinds l read → ⊥
