-- What a search of places has found
use Rattle.std.proofs.Common.{◌≡◌, ℕ, ◌<◌, ◌≤◌, false, List, length, get_or, sym, ap, ◌∙◌, arith, inl, inr}
use Rattle.std.specs.Prelude.{Option, None, Some, is_none, position, cond, not}
use Rattle.std.proofs.lemmas.List.Sums.{position_or_len_is, prefix_len-le-length}
use Rattle.std.proofs.lemmas.Bool.{cases_lt, lt-ltb}
use Rattle.std.proofs.lemmas.Option.{none-some}
use Rattle.key_campaign.specs.declared.entries.LedgerEntry.{LedgerEntry}
use Rattle.key_campaign.specs.Entries.{is_of, place_for, empty_place}
use Rattle.key_campaign.proofs.EntryPlaces.{is_of_same}
use Rattle.key_campaign.specs.Places.{FoundEntry}

module _ (uid : List ℕ) (id : ℕ) (places : List (Option LedgerEntry)) (place : ℕ) (before : (k : ℕ) → k < place → is_of uid id (get_or places k None) ≡ false) where
  pub found_here : (entry : LedgerEntry) → place < length places → get_or places place None ≡ Some entry → entry.uid ≡ uid → entry.id ≡ id
      → FoundEntry uid id places place entry
  found_here entry inside at uid_is id_is =
      let first : place_for uid id places ≡ place =
      position_or_len_is (is_of uid id) places place None (omega (arith, inside)) before (λ _. is_of_same uid id (get_or places place None) entry at uid_is id_is) in
      record {
        place_is = sym first;
        inside = inside;
        entry_is = ap (λ k. get_or places k None) first ∙ at;
      }

  pub found_nowhere : length places ≤ place → place ≤ length places → place_for uid id places ≡ length places
  found_nowhere past most =
      position_or_len_is (is_of uid id) places place None most before (λ inside. absurd (omega (arith, inside, past))) ∙ omega (arith, past, most)

-- no place is empty, if none is found
pub none_empty : (places : List (Option LedgerEntry)) → position is_none places ≡ None → empty_place places ≡ length places
none_empty places none = elim (cases_lt (empty_place places) (length places)) [
  | inl inside ↦
      absurd (none-some (empty_place places) (sym none ∙ ap (λ b. cond b (Some (empty_place places)) None) (lt-ltb (empty_place places) (length places) inside)))
  | inr past ↦ omega (arith, past, prefix_len-le-length (λ place. not (is_none place)) places)
]
