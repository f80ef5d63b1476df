-- Where the entry of a unit and slot stands
use Rattle.std.specs.Prelude.{◌≡◌, ℕ, ◌<◌, ◌≤◌, ◌==◌, true, false, not, Option, None, Some, is_none, List, length}
use Rattle.std.specs.Str.{bytes_eq}
use Rattle.std.proofs.Common.{refl, sym, ap, subst, ◌∙◌, arith, inl, inr, true≢false}
use Rattle.std.proofs.lemmas.Bool.{and_from, and_parts, cases_lt}
use Rattle.std.proofs.lemmas.Bool.Decides.{Decides-eqb}
use Rattle.std.proofs.lemmas.List.{get_or_past}
use Rattle.std.proofs.lemmas.List.Sums.{prefix_len-le-length, passes_at_first}
use Rattle.std.proofs.lemmas.Option.{same_Some, none-some}
use Rattle.std.proofs.lemmas.Slice.Eq.{bytes_eq-Decides}
use Rattle.key_campaign.specs.declared.entries.LedgerEntry.{LedgerEntry}
use Rattle.key_campaign.specs.Entries.{same_slot, is_of, place_for, entry_at, entry_for}

pub same_slot_is : (uid : List ℕ) (id : ℕ) (other : List ℕ) (other_id : ℕ) → same_slot uid id other other_id ≡ true → (other ≡ uid) × (other_id ≡ id)
same_slot_is uid id other other_id e =
    let parts = and_parts (bytes_eq other uid) (other_id == id) e in
    ((bytes_eq-Decides other uid).0 parts.0, (Decides-eqb other_id id).0 parts.1)

pub same_slot_self : (uid : List ℕ) (id : ℕ) → same_slot uid id uid id ≡ true
same_slot_self uid id = and_from (bytes_eq uid uid) (id == id) ((bytes_eq-Decides uid uid).1 refl) ((Decides-eqb id id).1 refl)

pub none_is_of : (uid : List ℕ) (id : ℕ) (place : Option LedgerEntry) → is_none place ≡ true → is_of uid id place ≡ false
none_is_of uid id None e = refl
none_is_of uid id (Some entry) e = absurd (true≢false (sym e))

-- an entry and its unit and slot
pub record Finds (uid : List ℕ) (id : ℕ) (place : Option LedgerEntry) : Type 0 where
  pub entry : LedgerEntry
  pub is : place ≡ Some entry
  pub uid_is : entry.uid ≡ uid
  pub id_is : entry.id ≡ id

pub finds : (uid : List ℕ) (id : ℕ) (place : Option LedgerEntry) → is_of uid id place ≡ true → Finds uid id place
finds uid id None e = absurd (true≢false (sym e))
finds uid id (Some entry) e =
    let same = same_slot_is uid id entry.uid entry.id e in
    record { entry = entry; is = refl; uid_is = same.0; id_is = same.1 }

pub is_of_same : (uid : List ℕ) (id : ℕ) (place : Option LedgerEntry) (e : LedgerEntry) → place ≡ Some e → e.uid ≡ uid → e.id ≡ id → is_of uid id place ≡ true
is_of_same uid id place e is uid_is id_is =
    ap (is_of uid id) is ∙ ap (λ u. same_slot uid id u e.id) uid_is ∙ ap (λ i. same_slot uid id uid i) id_is ∙ same_slot_self uid id

pub place_for_most : (uid : List ℕ) (id : ℕ) (entries : List (Option LedgerEntry)) → place_for uid id entries ≤ length entries
place_for_most uid id entries = prefix_len-le-length (λ place. not (is_of uid id place)) entries

-- what stands at the place of a unit and slot
pub at_place : (uid : List ℕ) (id : ℕ) (entries : List (Option LedgerEntry)) → place_for uid id entries < length entries → Finds uid id (entry_for uid id entries)
at_place uid id entries inside = finds uid id (entry_for uid id entries) (passes_at_first (is_of uid id) entries None inside)

-- if an entry stands at a place, the place is one of the list
pub inside_of : (entries : List (Option LedgerEntry)) (place : ℕ) (e : LedgerEntry) → entry_at entries place ≡ Some e → place < length entries
inside_of entries place e at = elim (cases_lt place (length entries)) [
  | inl inside ↦ inside
  | inr past ↦ absurd (none-some e (sym (get_or_past entries place None past) ∙ at))
]

-- an entry that is found is of its unit and slot
pub found_of : (uid : List ℕ) (id : ℕ) (entries : List (Option LedgerEntry)) (e : LedgerEntry) → entry_for uid id entries ≡ Some e
    → (place_for uid id entries < length entries) × (e.uid ≡ uid) × (e.id ≡ id)
found_of uid id entries e at =
    let inside = inside_of entries (place_for uid id entries) e at in
    let f = at_place uid id entries inside in
    let same : f.entry ≡ e = same_Some f.entry e (sym f.is ∙ at) in
    (inside, subst (λ (x : LedgerEntry). x.uid ≡ uid) same f.uid_is, subst (λ (x : LedgerEntry). x.id ≡ id) same f.id_is)

-- none is found exactly if none stands anywhere
pub unknown_of : (uid : List ℕ) (id : ℕ) (entries : List (Option LedgerEntry)) → entry_for uid id entries ≡ None → place_for uid id entries ≡ length entries
unknown_of uid id entries none = elim (cases_lt (place_for uid id entries) (length entries)) [
  | inl inside ↦ let f = at_place uid id entries inside in absurd (none-some f.entry (sym none ∙ f.is))
  | inr past ↦ omega (arith, past, place_for_most uid id entries)
]

pub none_of : (uid : List ℕ) (id : ℕ) (entries : List (Option LedgerEntry)) → place_for uid id entries ≡ length entries → entry_for uid id entries ≡ None
none_of uid id entries past = get_or_past entries (place_for uid id entries) None (omega (arith, past))
