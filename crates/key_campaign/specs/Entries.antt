-- The entries of a key campaign's ledger (own; a UID, a slot and a counter are those of the SHE specification)
use Rattle.std.specs.Prelude.{◌≡◌, ◌≢◌, ◌⊎◌, ℕ, ◌-◌, ◌^◌, ◌<◌, ◌≤◌, ◌==◌, ◌&&◌, Bool, false, Option, None, Some}
use Rattle.std.specs.Prelude.{List, length, replicate, set, slice_index_or, is_none}
use Rattle.std.specs.List.{position_or_len}
use Rattle.std.specs.Str.{bytes_eq}
use Rattle.memory_update.specs.Identifier.{IsUid}
use Rattle.key_campaign.specs.declared.entries.LedgerEntry.{LedgerEntry}
use Rattle.key_campaign.specs.declared.entries.PendingEntry.{PendingEntry}

-- how many places a ledger has
unfoldable pub place_count : ℕ
place_count = 256

-- the greatest counter of an update
abbrev pub greatest_counter : ℕ
greatest_counter = 2 ^ 28 - 1

-- ---- entries

-- the UID of one unit; the UID of zeros is for every unit
abbrev pub IsUnit : List ℕ → Type 0
IsUnit uid = IsUid uid × (uid ≢ replicate 15 0)

-- which entries there are: of a slot that takes updates, of one unit, with a counter that was issued
pub record IsEntry (e : LedgerEntry) : Type 0 where
  pub is_unit : IsUnit e.uid
  pub id_from_1 : 1 ≤ e.id
  pub id_to_13 : e.id ≤ 13
  pub counter_from_1 : 1 ≤ e.counter
  pub counter_fits : e.counter ≤ greatest_counter

-- the second unit and slot are the first
abbrev pub same_slot : List ℕ → ℕ → List ℕ → ℕ → Bool
same_slot uid id other_uid other_id = bytes_eq other_uid uid && (other_id == id)

-- the place has an entry of this unit and slot
abbrev pub is_of : List ℕ → ℕ → Option LedgerEntry → Bool
is_of uid id None = false
is_of uid id (Some e) = same_slot uid id e.uid e.id

-- the place at which the entry of a unit and slot stands first; the number of places if there is none
abbrev pub place_for : List ℕ → ℕ → List (Option LedgerEntry) → ℕ
place_for uid id entries = position_or_len (is_of uid id) entries

-- the first empty place; the number of places if there is none
abbrev pub empty_place : List (Option LedgerEntry) → ℕ
empty_place entries = position_or_len is_none entries

-- what stands at a place, and nothing past the last one
abbrev pub entry_at : List (Option LedgerEntry) → ℕ → Option LedgerEntry
entry_at entries place = slice_index_or entries place None

-- the entry of a unit and slot, if there is one
abbrev pub entry_for : List ℕ → ℕ → List (Option LedgerEntry) → Option LedgerEntry
entry_for uid id entries = entry_at entries (place_for uid id entries)

-- the counter that was issued last; 0 if none was
abbrev pub entry_counter : Option LedgerEntry → ℕ
entry_counter None = 0
entry_counter (Some e) = e.counter

abbrev pub last_issued : List ℕ → ℕ → List (Option LedgerEntry) → ℕ
last_issued uid id entries = entry_counter (entry_for uid id entries)

-- the place of the entry of a unit and slot, or, if there is none, the first empty one, if there is one
abbrev pub TakesPlace : List ℕ → ℕ → List (Option LedgerEntry) → ℕ → Type 0
TakesPlace uid id entries place =
    (place < length entries)
    × ((place ≡ place_for uid id entries)
    ⊎ ((place_for uid id entries ≡ length entries) × (place ≡ empty_place entries)))

-- the places of a ledger: entries, no two of them of one unit and slot
pub record AreLedgerEntries (entries : List (Option LedgerEntry)) : Type 0 where
  pub are : (place : ℕ) (e : LedgerEntry) → entry_at entries place ≡ Some e → IsEntry e
  pub once : (place : ℕ) (e : LedgerEntry) → entry_at entries place ≡ Some e → place_for e.uid e.id entries ≡ place

-- no entry
unfoldable pub no_entries : List (Option LedgerEntry)
no_entries = replicate place_count None

-- ---- a change of one place

abbrev pub with_change : PendingEntry → List (Option LedgerEntry) → List (Option LedgerEntry)
with_change change entries = set entries change.place (Some change.entry)

-- a change that moves a ledger forward: an entry with at least the counter that was issued last goes to the place of
-- its unit and slot
pub record Advances (entries : List (Option LedgerEntry)) (change : PendingEntry) : Type 0 where
  pub takes : TakesPlace change.entry.uid change.entry.id entries change.place
  pub is_entry : IsEntry change.entry
  pub forward : last_issued change.entry.uid change.entry.id entries ≤ change.entry.counter
