-- What reading a log store leaves and finds.
use Rattle.std.specs.Prelude.{◌≡◌, ℕ, ◌+◌, ◌<◌, ◌≤◌, min, true, false, Option, Some, None, List, [], get_or}
use Rattle.std.specs.Prelude.{if◌then◌else◌}
use Rattle.cut_disk.specs.State.{DiskState, Told}
use Rattle.cell_store.specs.declared.copies.Side.{Side}
use Rattle.cell_store.specs.declared.copies.Side.TheVariants.{First, Second}
use Rattle.cell_store.specs.declared.banks.Bank.{Bank}
use Rattle.cell_store.specs.declared.kinds.Version.{Version}
use Rattle.cell_store.specs.Layout.{from_base}
use Rattle.cell_store.specs.declared.faults.Reread.{Reread}
use Rattle.cell_store.specs.declared.faults.Reread.TheVariants as reread
use Rattle.cell_store.specs.Twin.{is_live, mark, counts}
use Rattle.cell_store.specs.Copies.{other}
use Rattle.cell_store.specs.Log.{bank_head, bank_cell, BankCounts, place, number, listed}
use Rattle.cell_store.specs.Log.{LogDamaged}
use Rattle.cell_store.specs.ReadOrder.{bank_reads_to}
use Rattle.cell_store.specs.Reading.{ReadOnly, ReadFailed}

-- told bytes have P from the base on
abbrev pub ToldLog : Version → Option Told → (List ℕ → Type 0) → Type 0
ToldLog version told P = (t : Told) → told ≡ Some t → P (from_base version t.bytes)

-- a bank beside the other, by their gates and marks
abbrev pub bank_beside : List ℕ → Side → List ℕ → Bank
bank_beside this side that = record { side = side; mark = mark this; used = 0; spare_is_live = is_live that }

-- the bank that counts; none if none does
abbrev pub bank_of : List ℕ → List ℕ → Option Bank
bank_of first second =
    if counts first second then Some (bank_beside first First second) else
    if counts second first then Some (bank_beside second Second first) else None

-- this bank counts, and it and its spare are as memory holds them
pub record BankRead (n : ℕ) (bank : Bank) (x : List ℕ) : Type 0 where
  pub counting : BankCounts n bank.side x
  pub marked : mark (bank_head n bank.side x) ≡ bank.mark
  pub spare : is_live (bank_head n (other bank.side) x) ≡ bank.spare_is_live

abbrev pub NoBank : ℕ → List ℕ → Type 0
NoBank n x = (side : Side) → BankCounts n side x → ⊥

-- the bank isn't read: the disk failed, or no bank counts
abbrev pub BankFault : Version → ℕ → DiskState → DiskState → Reread → Type 0
BankFault version n old new reread.DiskFailed = ReadFailed 2 old new
BankFault version n old new reread.NotFormatted = ⊥
BankFault version n old new (reread.Damaged i) = (i ≡ 0) × ReadOnly 2 old new × ToldLog version old.told (NoBank n)

-- the first i cells of a bank are read
pub record CellsSoFar (n : ℕ) (side : Side) (i : ℕ) (cells : List (List ℕ)) (x : List ℕ) : Type 0 where
  pub each : (j : ℕ) → j < i → get_or cells j [] ≡ bank_cell n side x j

-- the first p places of a bank are read: the first `used` of them are live
pub record PlacesSoFar (n : ℕ) (side : Side) (p used : ℕ) (cells : List (List ℕ)) (x : List ℕ) : Type 0 where
  pub most : used ≤ p
  pub live : (q : ℕ) → q < used → is_live (place n side x q) ≡ true
  pub below : (q : ℕ) → q < used → number (place n side x q) < n
  pub free : (q : ℕ) → used ≤ q → q < p → is_live (place n side x q) ≡ false
  pub list : listed n side x used ≡ cells

-- the places aren't read: the disk failed, or this is the first that is damaged
abbrev pub PlacesFault : Version → ℕ → DiskState → DiskState → Reread → Type 0
PlacesFault version n old new reread.DiskFailed = ReadFailed 64 old new
PlacesFault version n old new reread.NotFormatted = ⊥
PlacesFault version n old new (reread.Damaged i) =
    (1 ≤ i) × ReadOnly (min 64 i) old new × ToldLog version old.told (λ x. LogDamaged x n i)

-- the bank that counts isn't read whole: the disk failed, or it is damaged
abbrev pub CountingFault : Version → ℕ → DiskState → DiskState → Reread → Type 0
CountingFault version n old new reread.DiskFailed = ReadFailed (66 + n) old new
CountingFault version n old new reread.NotFormatted = ⊥
CountingFault version n old new (reread.Damaged i) =
    ReadOnly (min (66 + n) (bank_reads_to n i)) old new × ToldLog version old.told (λ x. LogDamaged x n i)
