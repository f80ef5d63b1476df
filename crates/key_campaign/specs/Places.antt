-- What is found in the places of a ledger (own)
use Rattle.std.specs.Prelude.{◌≡◌, ℕ, ◌+◌, ◌<◌, ◌≤◌, Option, None, Some, List, length, take}
use Rattle.key_campaign.specs.declared.entries.LedgerEntry.{LedgerEntry}
use Rattle.key_campaign.specs.Entries.{place_count, greatest_counter, place_for, entry_at, entry_for, last_issued}
use Rattle.key_campaign.specs.Entries.{TakesPlace}
use Rattle.key_campaign.specs.Steps.{HasNoPlace}
use Rattle.key_campaign.specs.Cell.{HoldEntries}
use Rattle.key_campaign.specs.declared.faults.LedgerFault.{LedgerFault}
use Rattle.key_campaign.specs.declared.faults.LedgerFault.TheVariants as fault

-- this is the entry of the unit and slot, and its place
pub record FoundEntry (uid : List ℕ) (id : ℕ) (entries : List (Option LedgerEntry)) (place : ℕ) (entry : LedgerEntry)
    : Type 0 where
  pub place_is : place ≡ place_for uid id entries
  pub inside : place < length entries
  pub entry_is : entry_for uid id entries ≡ Some entry

-- the place and the counter of the next update that is issued for a unit and slot
pub record IsNext (uid : List ℕ) (id : ℕ) (entries : List (Option LedgerEntry)) (place counter : ℕ) : Type 0 where
  pub takes : TakesPlace uid id entries place
  pub below : last_issued uid id entries < greatest_counter
  pub counter_is : counter ≡ last_issued uid id entries + 1

-- why there is none: no place, or the last counter was issued
abbrev pub HasNoNext : List ℕ → ℕ → List (Option LedgerEntry) → LedgerFault → Type 0
HasNoNext uid id entries fault.Full = HasNoPlace entries uid id
HasNoNext uid id entries fault.Spent = last_issued uid id entries ≡ greatest_counter
HasNoNext uid id entries _ = ⊥

-- The first n cells are those of the first n places, and after these there is nothing yet.
pub record ReadSoFar (cells : List (List ℕ)) (n : ℕ) (places : List (Option LedgerEntry)) : Type 0 where
  pub count : length places ≡ place_count
  pub so_far : HoldEntries (take n cells) (take n places)
  pub nothing : (place : ℕ) → n ≤ place → entry_at places place ≡ None
