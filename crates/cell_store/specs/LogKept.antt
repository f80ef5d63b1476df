-- The cells of a log store, as bytes keep them and as memory holds them, and what a put makes of them.
use Rattle.std.specs.Prelude.{◌≡◌, ◌⊎◌, ℕ, ◌≤◌, Option, Some, List, length, set}
use Rattle.cut_disk.specs.State.{Told}
use Rattle.cut_disk.specs.Images.{firm, EachImage}
use Rattle.cell_store.specs.declared.kinds.Version.{Version}
use Rattle.cell_store.specs.declared.copies.Side.{Side}
use Rattle.cell_store.specs.declared.banks.Bank.{Bank}
use Rattle.cell_store.specs.Layout.{part, from_base, header, log_layout}
use Rattle.cell_store.specs.Twin.{is_live, mark}
use Rattle.cell_store.specs.Copies.{other}
use Rattle.cell_store.specs.Log.{log_size, bank_head, BankCounts, listed, Places}
use Rattle.cell_store.specs.Store.{Stands, SameBesides, LogPut}

-- the bytes of a log store have the header of these n cells. They hold them in the bank on this side and its first so
-- many places
pub record HoldsInBank (version : Version) (n : ℕ) (store : List ℕ) (cells : List (List ℕ)) (side : Side)
    (used : ℕ) : Type 0 where
  pub count : length cells ≡ n
  pub room : log_size n ≤ length store
  pub head : part 0 32 store ≡ header (log_layout version) n
  pub counting : BankCounts n side store
  pub places : Places n side store used
  pub list : listed n side store used ≡ cells

-- the bytes keep these n cells, as memory holds the bank that counts
pub record KeepsLog (version : Version) (n : ℕ) (x : List ℕ) (cells : List (List ℕ)) (bank : Bank) : Type 0 where
  pub holds : HoldsInBank version n (from_base version x) cells bank.side bank.used
  pub marked : mark (bank_head n bank.side (from_base version x)) ≡ bank.mark
  pub spare : is_live (bank_head n (other bank.side) (from_base version x)) ≡ bank.spare_is_live

-- a put is finished: none of the bytes is loose, and they keep the new cells
pub record LogPutDone (version : Version) (n i : ℕ) (c : List ℕ) (cells : List (List ℕ)) (bank : Bank) (x : List ℕ)
    (new : Option Told) : Type 0 where
  pub bytes : List ℕ
  pub told : new ≡ Some (firm bytes)
  pub keeps : KeepsLog version n bytes (set cells i c) bank
  pub put : LogPut version x i c bytes

abbrev pub PutsLog : Version → ℕ → ℕ → List ℕ → List (List ℕ) → Bank → Option Told → Option Told → Type 0
PutsLog version n i c cells bank old new = (t : Told) → old ≡ Some t → LogPutDone version n i c cells bank t.bytes new

-- bytes that stand for the cells before a put, or for those after it
abbrev pub LogStandsForEither : Version → ℕ → List ℕ → List (List ℕ) → List ℕ → Type 0
LogStandsForEither version i c cells x =
    Stands (log_layout version) x cells ⊎ Stands (log_layout version) x (set cells i c)

-- if no byte was loose, every image stands for one of the two
abbrev pub LeavesEither : Version → ℕ → List ℕ → List (List ℕ) → Option Told → Option Told → Type 0
LeavesEither version i c cells old new =
    (b : List ℕ) → old ≡ Some (firm b) → EachImage new (LogStandsForEither version i c cells)

-- and has the bytes before and after the store as they were
abbrev pub LogBesides : Version → ℕ → Option Told → Option Told → Type 0
LogBesides version n old new = (b : List ℕ) → old ≡ Some (firm b) → EachImage new (SameBesides (log_layout version) n b)
