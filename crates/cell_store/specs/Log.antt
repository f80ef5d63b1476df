-- The log store: after the header there are two banks, and one of them counts. With n cells a bank is a gate, a mark
-- from 0 to 2, n cells of 32 bytes, and 64 places of 35 bytes for records. A place is a gate, a cell number in two
-- bytes, and 32 bytes of payload. A bank or place is live if its gate is a7. All places count from the first byte of
-- the list.
use Rattle.std.specs.Prelude.{◌≡◌, ℕ, zero, suc, ◌+◌, ◌*◌, ◌<◌, ◌≤◌, true, false, ◌⊎◌, List, ◌∷◌, ◌++◌, length, drop}
use Rattle.std.specs.Prelude.{set, map, replicate}
use Rattle.std.specs.List.{range_with_len, flat_map}
use Rattle.basics.specs.Numbers.{number_of, bytes_of}
use Rattle.cell_store.specs.declared.copies.Side.{Side}
use Rattle.cell_store.specs.declared.copies.Side.TheVariants.{First, Second}
use Rattle.cell_store.specs.Layout.{part}
use Rattle.cell_store.specs.Twin.{is_live, counts}
use Rattle.cell_store.specs.Copies.{other}

-- the size in bytes of a store of n cells, from its base on
abbrev pub log_size : ℕ → ℕ
log_size n = 4516 + 64 * n

-- where the banks of a store of n cells begin
abbrev pub bank_at : ℕ → Side → ℕ
bank_at n First = 32
bank_at n Second = 2274 + 32 * n

-- the gate and the mark of a bank
abbrev pub bank_head : ℕ → Side → List ℕ → List ℕ
bank_head n side x = part (bank_at n side) 2 x

-- this bank counts, and not the other
abbrev pub BankCounts : ℕ → Side → List ℕ → Type 0
BankCounts n side x = counts (bank_head n side x) (bank_head n (other side) x) ≡ true

-- the cells of a bank
abbrev pub bank_cell : ℕ → Side → List ℕ → ℕ → List ℕ
bank_cell n side x i = part (bank_at n side + 2 + 32 * i) 32 x

abbrev pub bank_cells : ℕ → Side → List ℕ → List (List ℕ)
bank_cells n side x = map (bank_cell n side x) (range_with_len 0 n)

-- place p of a bank
abbrev pub place_at : ℕ → Side → ℕ → ℕ
place_at n side p = bank_at n side + 2 + 32 * n + 35 * p

abbrev pub place : ℕ → Side → List ℕ → ℕ → List ℕ
place n side x p = part (place_at n side p) 35 x

-- the number of the cell that a record changes, and what it is then
abbrev pub number : List ℕ → ℕ
number record_bytes = number_of (part 1 2 record_bytes)

abbrev pub content : List ℕ → List ℕ
content record_bytes = drop 3 record_bytes

-- the cells of a bank, changed by its first records in order, so many of them
abbrev pub listed : ℕ → Side → List ℕ → ℕ → List (List ℕ)
listed n side x zero = bank_cells n side x
listed n side x (suc p) = set (listed n side x p) (number (place n side x p)) (content (place n side x p))

-- the first `used` places of a bank are live, with numbers below n, and no other place is
pub record Places (n : ℕ) (side : Side) (x : List ℕ) (used : ℕ) : Type 0 where
  pub most : used ≤ 64
  pub live : (p : ℕ) → p < used → is_live (place n side x p) ≡ true
  pub below : (p : ℕ) → p < used → number (place n side x p) < n
  pub free : (p : ℕ) → used ≤ p → p < 64 → is_live (place n side x p) ≡ false

-- place p stands after a place that isn't live
pub record Behind (n : ℕ) (side : Side) (x : List ℕ) (p : ℕ) : Type 0 where
  pub place : ℕ
  pub before : place < p
  pub closed : is_live (part (place_at n side place) 35 x) ≡ false

-- place p is live, and holds no number below n or stands after a place that isn't live
pub record PlaceDamaged (n : ℕ) (side : Side) (x : List ℕ) (p : ℕ) : Type 0 where
  pub live : is_live (place n side x p) ≡ true
  pub wrong : (n ≤ number (place n side x p)) ⊎ Behind n side x p

-- a bank counts, and its cells, changed by its live places, are these
pub record LogHolds (store : List ℕ) (cells : List (List ℕ)) : Type 0 where
  pub side : Side
  pub counting : BankCounts (length cells) side store
  pub used : ℕ
  pub places : Places (length cells) side store used
  pub list : listed (length cells) side store used ≡ cells

-- of the places of the bank that counts this one is damaged, and none before it
pub record FirstPlaceDamaged (store : List ℕ) (n p : ℕ) : Type 0 where
  pub side : Side
  pub counting : BankCounts n side store
  pub below : p < 64
  pub damaged : PlaceDamaged n side store p
  pub before : (q : ℕ) → q < p → PlaceDamaged n side store q → ⊥

-- no bank counts, or the first damaged place is the one before this number
abbrev pub LogDamaged : List ℕ → ℕ → ℕ → Type 0
LogDamaged store n zero = (side : Side) → BankCounts n side store → ⊥
LogDamaged store n (suc p) = FirstPlaceDamaged store n p

-- a live record
abbrev pub live_record : ℕ → List ℕ → List ℕ
live_record i c = 0xa7 ∷ (bytes_of 2 i ++ c)

-- a bank with this mark and these cells, and a record in no place, but its gate
abbrev pub bank_rest : ℕ → List (List ℕ) → List ℕ
bank_rest m cells = m ∷ flat_map (λ c. c) cells ++ replicate 2240 0

abbrev pub live_bank : ℕ → List (List ℕ) → List ℕ
live_bank m cells = 0xa7 ∷ bank_rest m cells

-- both banks of a fresh store: the first is live with these cells, the second closed and zero except for its mark 2
abbrev pub fresh_banks : List (List ℕ) → List ℕ
fresh_banks cells = live_bank 0 cells ++ 0 ∷ 2 ∷ replicate (2240 + 32 * length cells) 0
