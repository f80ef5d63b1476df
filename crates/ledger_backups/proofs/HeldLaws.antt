-- The entries of places are entries, and no more than the places
use Rattle.std.proofs.Common.{◌≡◌, ℕ, suc, ◌≤◌, List, [], ◌∷◌, length, refl, arith}
use Rattle.std.specs.Prelude.{All, Option, None, Some}
use Rattle.std.proofs.lemmas.List.Elements.{All-nil, All-cons}
use Rattle.key_campaign.specs.declared.entries.LedgerEntry.{LedgerEntry}
use Rattle.key_campaign.specs.Entries.{IsEntry, entry_at}
use Rattle.ledger_commands.specs.EntryTexts.{held_entries}

pub held_are : (places : List (Option LedgerEntry)) → ((k : ℕ) (e : LedgerEntry) → entry_at places k ≡ Some e → IsEntry e) → All IsEntry (held_entries places)
held_are [] are = All-nil IsEntry
held_are (None ∷ places) are = held_are places (λ k e at. are (suc k) e at)
held_are (Some e ∷ places) are = All-cons IsEntry e (held_entries places) (are 0 e refl) (held_are places (λ k f at. are (suc k) f at))

pub held_few : (places : List (Option LedgerEntry)) → length (held_entries places) ≤ length places
held_few [] = omega arith
held_few (None ∷ places) = let few = held_few places in omega (arith, few)
held_few (Some e ∷ places) = let few = held_few places in omega (arith, few)
