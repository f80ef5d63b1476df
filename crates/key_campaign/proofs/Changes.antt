-- What the change of one place leaves of the entries
use Rattle.std.specs.Prelude.{◌≡◌, ◌≢◌, ◌⊎◌, ℕ, ◌<◌, ◌≤◌, true, false, Option, None, Some, is_none, List, length, set}
use Rattle.std.proofs.Common.{sym, ap, subst, ◌∙◌, arith, inl, inr, true≢false}
use Rattle.std.proofs.Math.ListN.{get_or}
use Rattle.std.proofs.lemmas.Bool.{cases_Bool}
use Rattle.std.proofs.lemmas.Bool.Decides.{eqb_tells}
use Rattle.std.proofs.lemmas.List.{get_or-set_same, get_or-set_other, length-set}
use Rattle.std.proofs.lemmas.List.Folds.{position_or_len-set}
use Rattle.std.proofs.lemmas.List.Sums.{position_or_len_is, fails_before_first, passes_at_first}
use Rattle.std.proofs.lemmas.Option.{same_Some}
use Rattle.key_campaign.specs.declared.entries.LedgerEntry.{LedgerEntry}
use Rattle.key_campaign.specs.declared.entries.PendingEntry.{PendingEntry}
use Rattle.key_campaign.specs.Entries.{IsEntry, same_slot, is_of, place_for, entry_at, entry_for, last_issued, entry_counter, TakesPlace, AreLedgerEntries, with_change, Advances}
use Rattle.key_campaign.proofs.EntryPlaces.{same_slot_is, same_slot_self, none_is_of, at_place, inside_of}

module _ (entries : List (Option LedgerEntry)) (k : ℕ) (e : LedgerEntry) (takes : TakesPlace e.uid e.id entries k) where
  abbrev after : List (Option LedgerEntry)
  after = set entries k (Some e)

  -- what stood there was an entry of the same unit and slot, or nothing
  stood_own : is_of e.uid e.id (Some e) ≡ true
  stood_own = same_slot_self e.uid e.id

  pub own_place : place_for e.uid e.id after ≡ k
  own_place = elim takes.1 [
    | inl first ↦
        let there = passes_at_first (is_of e.uid e.id) entries None (subst (λ p. p < length entries) first takes.0) in
        position_or_len-set (is_of e.uid e.id) entries k (Some e) None (stood_own ∙ sym (ap (λ p. is_of e.uid e.id (get_or entries p None)) first ∙ there)) ∙ sym first
    | inr new ↦
        position_or_len_is (is_of e.uid e.id) after k None (omega (arith, takes.0, length-set entries k (Some e)))
        (λ j below. ap (is_of e.uid e.id) (get_or-set_other entries k j (Some e) None (omega arith))
        ∙ fails_before_first (is_of e.uid e.id) entries j None (omega (arith, below, takes.0, new.0)))
        (λ inside. ap (is_of e.uid e.id) (get_or-set_same entries k (Some e) None takes.0) ∙ stood_own)
  ]

  pub own_entry : entry_for e.uid e.id after ≡ Some e
  own_entry = ap (entry_at after) own_place ∙ get_or-set_same entries k (Some e) None takes.0

  module _ (uid : List ℕ) (id : ℕ) (other : same_slot uid id e.uid e.id ≡ false) where
    stood_other : is_of uid id (get_or entries k None) ≡ false
    stood_other = elim takes.1 [
      | inl first ↦
          let f = at_place e.uid e.id entries (subst (λ p. p < length entries) first takes.0) in
          ap (λ p. is_of uid id (get_or entries p None)) first ∙ ap (is_of uid id) f.is
          ∙ ap (λ u. same_slot uid id u f.entry.id) f.uid_is ∙ ap (λ i. same_slot uid id e.uid i) f.id_is ∙ other
      | inr new ↦
          none_is_of uid id (get_or entries k None)
          (ap (λ p. is_none (get_or entries p None)) new.1 ∙ passes_at_first is_none entries None (subst (λ p. p < length entries) new.1 takes.0))
    ]

    pub other_place : place_for uid id after ≡ place_for uid id entries
    other_place = position_or_len-set (is_of uid id) entries k (Some e) None (other ∙ sym stood_other)

    elsewhere : place_for uid id entries ≢ k
    elsewhere same =
        let there = passes_at_first (is_of uid id) entries None (subst (λ p. p < length entries) (sym same) takes.0) in
        absurd (true≢false (sym there ∙ ap (λ p. is_of uid id (get_or entries p None)) same ∙ stood_other))

    pub other_entry : entry_for uid id after ≡ entry_for uid id entries
    other_entry = ap (entry_at after) other_place ∙ get_or-set_other entries k (place_for uid id entries) (Some e) None elsewhere

  -- the entry of any unit and slot after the change
  pub entry_after : (uid : List ℕ) (id : ℕ)
      → ((e.uid ≡ uid) × (e.id ≡ id) × (entry_for uid id after ≡ Some e)) ⊎ (entry_for uid id after ≡ entry_for uid id entries)
  entry_after uid id = elim (cases_Bool (same_slot uid id e.uid e.id)) [
    | inl same ↦
        let is = same_slot_is uid id e.uid e.id same in
        inl (is.0, is.1, subst (λ u. entry_for u id after ≡ Some e) is.0 (subst (λ i. entry_for e.uid i after ≡ Some e) is.1 own_entry))
    | inr other ↦ inr (other_entry uid id other)
  ]

  -- no two entries are of one unit and slot
  once_after : ((p : ℕ) (f : LedgerEntry) → entry_at entries p ≡ Some f → place_for f.uid f.id entries ≡ p)
      → (p : ℕ) (f : LedgerEntry) → entry_at after p ≡ Some f → place_for f.uid f.id after ≡ p
  once_after once p f at = elim (eqb_tells p k) [
    | inl here ↦
        let same : e ≡ f = same_Some e f (sym (get_or-set_same entries k (Some e) None takes.0) ∙ ap (entry_at after) (sym here.1) ∙ at) in
        subst (λ (x : LedgerEntry). place_for x.uid x.id after ≡ p) same (own_place ∙ sym here.1)
    | inr there ↦
        let was : entry_at entries p ≡ Some f = sym (get_or-set_other entries k p (Some e) None there.1) ∙ at in
        let first = once p f was in
        elim (cases_Bool (same_slot f.uid f.id e.uid e.id)) [
          | inr other ↦ other_place f.uid f.id other ∙ first
          | inl same ↦
              let is = same_slot_is f.uid f.id e.uid e.id same in
              let mine : place_for e.uid e.id entries ≡ p = ap (λ u. place_for u e.id entries) is.0 ∙ ap (λ i. place_for f.uid i entries) is.1 ∙ first in
              let inside = inside_of entries p f was in
              absurd (elim takes.1 [
                | inl own ↦ there.1 (sym mine ∙ sym own)
                | inr new ↦ omega (arith, new.0, mine, inside)
              ])
        ]
  ]

  are_after : IsEntry e → ((p : ℕ) (f : LedgerEntry) → entry_at entries p ≡ Some f → IsEntry f)
      → (p : ℕ) (f : LedgerEntry) → entry_at after p ≡ Some f → IsEntry f
  are_after is are p f at = elim (eqb_tells p k) [
    | inl here ↦
        let same : e ≡ f = same_Some e f (sym (get_or-set_same entries k (Some e) None takes.0) ∙ ap (entry_at after) (sym here.1) ∙ at) in
        subst IsEntry same is
    | inr there ↦ are p f (sym (get_or-set_other entries k p (Some e) None there.1) ∙ at)
  ]

  pub entries_after : IsEntry e → AreLedgerEntries entries → AreLedgerEntries after
  entries_after is all = record { are = are_after is all.are; once = once_after all.once }

-- after a change that advances, places hold entries as before
pub AreLedgerEntries-change : (entries : List (Option LedgerEntry)) (change : PendingEntry) → Advances entries change → AreLedgerEntries entries → AreLedgerEntries (with_change change entries)
AreLedgerEntries-change entries change advances = entries_after entries change.place change.entry advances.takes advances.is_entry

-- no counter falls by it
pub last_issued_change : (entries : List (Option LedgerEntry)) (change : PendingEntry) (uid : List ℕ) (id : ℕ) → Advances entries change
    → last_issued uid id entries ≤ last_issued uid id (with_change change entries)
last_issued_change entries change uid id advances = elim (entry_after entries change.place change.entry advances.takes uid id) [
  | inl own ↦
      let forward : last_issued uid id entries ≤ change.entry.counter =
      subst (λ u. last_issued u id entries ≤ change.entry.counter) own.0 (subst (λ i. last_issued change.entry.uid i entries ≤ change.entry.counter) own.1 advances.forward) in
      omega (arith, forward, ap entry_counter own.2)
  | inr same ↦ omega (arith, ap entry_counter same)
]
