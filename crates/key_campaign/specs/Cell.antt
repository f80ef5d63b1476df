-- The cell of a place of a ledger: the 32 bytes in which a store keeps it (own)
use Rattle.std.specs.Prelude.{◌≡◌, ◌⊎◌, ℕ, ◌<◌, Option, None, Some, List, [], ◌∷◌, ◌++◌, length, map, take, replicate}
use Rattle.std.specs.Prelude.{slice_index_or}
use Rattle.basics.specs.Numbers.{bytes_of}
use Rattle.key_slots.specs.Flags.{bit}
use Rattle.key_campaign.specs.declared.entries.LedgerEntry.{LedgerEntry}
use Rattle.key_campaign.specs.Entries.{IsEntry, place_for, AreLedgerEntries}

-- An empty place is 32 zero bytes. An entry is a byte 3, the UID in 15 bytes, the slot, the counter in four, the state,
-- and ten zero bytes.
unfoldable pub place_cell : Option LedgerEntry → List ℕ
place_cell None = replicate 32 0
place_cell (Some e) = 3 ∷ e.uid ++ (e.id ∷ bytes_of 4 e.counter ++ bit e.confirmed ∷ replicate 10 0)

-- what may stand at a place
abbrev pub IsLedgerPlace : Option LedgerEntry → Type 0
IsLedgerPlace None = Unit {0}
IsLedgerPlace (Some e) = IsEntry e

-- the cell holds this place
pub record HoldsPlace (cell : List ℕ) (place : Option LedgerEntry) : Type 0 where
  pub is_place : IsLedgerPlace place
  pub cell_is : cell ≡ place_cell place

-- the cells of these places
abbrev pub ledger_cells : List (Option LedgerEntry) → List (List ℕ)
ledger_cells entries = map place_cell entries

-- the cells are those of these places, and no two places have entries of one unit and slot
pub record HoldEntries (cells : List (List ℕ)) (entries : List (Option LedgerEntry)) : Type 0 where
  pub entries_are : AreLedgerEntries entries
  pub cells_are : cells ≡ ledger_cells entries

-- after these places the cell is no place's, or it has an entry of the unit and slot of one of them
abbrev pub IsBadBehind : List (Option LedgerEntry) → List ℕ → Type 0
IsBadBehind front cell =
    ((place : Option LedgerEntry) → ¬ HoldsPlace cell place)
    ⊎ ((e : LedgerEntry) × HoldsPlace cell (Some e) × (place_for e.uid e.id front < length front))

-- this cell is the first that is neither empty nor an entry, or that repeats the unit and slot of an earlier one
pub record FirstBadEntry (cells : List (List ℕ)) (bad : ℕ) : Type 0 where
  pub below : bad < length cells
  pub front : List (Option LedgerEntry)
  pub before : HoldEntries (take bad cells) front
  pub is_bad : IsBadBehind front (slice_index_or cells bad [])
