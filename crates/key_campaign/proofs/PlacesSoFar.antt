-- One more place is read.
use Rattle.std.proofs.Common.{◌≡◌, ℕ, ◌+◌, ◌≤◌, ◌<◌, List, [], ◌∷◌, ◌++◌, length, get_or, set, take, replicate, refl, sym, ap, ◌∙◌, subst, arith, inl, inr, length-append, cond}
use Rattle.std.specs.Prelude.{Option, None, Some}
use Rattle.std.proofs.Math.ListN.{get_or-append}
use Rattle.std.proofs.Math.Seq.{get_or-append_seam}
use Rattle.std.proofs.lemmas.Bool.{cases_lt}
use Rattle.std.proofs.lemmas.Bool.Decides.{eqb_tells}
use Rattle.std.proofs.lemmas.List.{take_more, take_more_set, take_all, map-append, get_or-set_other, get_or-replicate, get_or_past, length-replicate, length-take-le, length-set}
use Rattle.std.proofs.lemmas.List.Folds.{position_or_len_push}
use Rattle.std.proofs.lemmas.Option.{same_Some, none-some}
use Rattle.key_campaign.specs.declared.entries.LedgerEntry.{LedgerEntry}
use Rattle.key_campaign.specs.Entries.{IsEntry, place_count, is_of, place_for, entry_at, AreLedgerEntries, no_entries}
use Rattle.key_campaign.proofs.EntryPlaces.{is_of_same, inside_of, place_for_most}
use Rattle.key_campaign.specs.Cell.{place_cell, HoldsPlace, ledger_cells, HoldEntries, FirstBadEntry}
use Rattle.key_campaign.specs.Places.{ReadSoFar}

-- what a place may be after others
abbrev pub MayFollow : List (Option LedgerEntry) → Option LedgerEntry → Type 0
MayFollow front place = (e : LedgerEntry) → place ≡ Some e → IsEntry e × (place_for e.uid e.id front ≡ length front)

module _ (front : List (Option LedgerEntry)) (place : Option LedgerEntry) (all : AreLedgerEntries front) (may : MayFollow front place) where
  abbrev more : List (Option LedgerEntry)
  more = front ++ place ∷ []

  here : (k : ℕ) (f : LedgerEntry) → length front ≤ k → entry_at more k ≡ Some f → (k ≡ length front) × (place ≡ Some f)
  here k f past at =
      let size = length-append front (place ∷ []) in
      let inside = inside_of more k f at in
      let is : k ≡ length front = omega (arith, inside, size, past) in
      (is, sym (get_or-append_seam front place [] None) ∙ sym (ap (entry_at more) is) ∙ at)

  are_more : (k : ℕ) (f : LedgerEntry) → entry_at more k ≡ Some f → IsEntry f
  are_more k f at = elim (cases_lt k (length front)) [
    | inl inside ↦ all.are k f (sym (get_or-append front (place ∷ []) None k inside) ∙ at)
    | inr past ↦ (may f (here k f past at).1).0
  ]

  once_more : (k : ℕ) (f : LedgerEntry) → entry_at more k ≡ Some f → place_for f.uid f.id more ≡ k
  once_more k f at =
      let first : ℕ = place_for f.uid f.id front in
      let push = position_or_len_push (is_of f.uid f.id) front place in
      elim (cases_lt k (length front)) [
        | inl inside ↦
            let is : first ≡ k = all.once k f (sym (get_or-append front (place ∷ []) None k inside) ∙ at) in
            elim (eqb_tells first (length front)) [
              | inl same ↦ absurd (omega (arith, same.1, is, inside))
              | inr other ↦ push ∙ ap (λ b. cond b (length front + cond (is_of f.uid f.id place) 0 1) first) other.0 ∙ is
            ]
        | inr past ↦
            let h = here k f past at in
            let none = (may f h.1).1 in
            elim (eqb_tells first (length front)) [
              | inl same ↦ push ∙ ap (λ b. cond b (length front + cond (is_of f.uid f.id place) 0 1) first) same.0
                  ∙ ap (λ b. length front + cond b 0 1) (is_of_same f.uid f.id place f h.1 refl refl) ∙ omega (arith, h.0)
              | inr other ↦ absurd (other.1 none)
            ]
      ]

  pub push_place : AreLedgerEntries more
  push_place = record { are = are_more; once = once_more }

pub cells_more : (cells : List (List ℕ)) (places later : List (Option LedgerEntry)) (n : ℕ) (place : Option LedgerEntry) → n < length cells
    → take n cells ≡ ledger_cells (take n places) → get_or cells n [] ≡ place_cell place → take (n + 1) later ≡ take n places ++ place ∷ []
    → take (n + 1) cells ≡ ledger_cells (take (n + 1) later)
cells_more cells places later n place inside so_far is next =
    take_more cells n [] inside
    ∙ ap (λ front. front ++ get_or cells n [] ∷ []) so_far
    ∙ ap (λ cell. ledger_cells (take n places) ++ cell ∷ []) is
    ∙ sym (map-append place_cell (take n places) (place ∷ []))
    ∙ ap ledger_cells (sym next)

-- ---- after what is read there is nothing yet

abbrev nothing : Option LedgerEntry
nothing = None

none_of_replicate : (n k : ℕ) → get_or (replicate n nothing) k nothing ≡ nothing
none_of_replicate n k = elim (cases_lt k n) [
  | inl inside ↦ get_or-replicate n k nothing nothing inside
  | inr past ↦ get_or_past (replicate n nothing) k nothing (omega (arith, past, length-replicate n nothing))
]

pub none_at_first : (k : ℕ) → entry_at no_entries k ≡ None
unfolding no_entries
none_at_first k = none_of_replicate place_count k

pub none_behind : (places : List (Option LedgerEntry)) (n : ℕ) (place : Option LedgerEntry) → ((k : ℕ) → n ≤ k → entry_at places k ≡ None)
    → (k : ℕ) → n + 1 ≤ k → entry_at (set places n place) k ≡ None
none_behind places n place rest k above = get_or-set_other places n k place None (omega (arith, above)) ∙ rest k (omega (arith, above))

-- ---- what is read so far

not_before : (e : LedgerEntry) (front : List (Option LedgerEntry)) (n : ℕ) → length front ≡ n → (place_for e.uid e.id front < n → ⊥) → place_for e.uid e.id front ≡ length front
not_before e front n long new = elim (cases_lt (place_for e.uid e.id front) n) [
  | inl found ↦ absurd (new found)
  | inr past ↦ omega (arith, past, long, place_for_most e.uid e.id front)
]

pub none_read : (cells : List (List ℕ)) (places : List (Option LedgerEntry)) → places ≡ no_entries → ReadSoFar cells 0 places
unfolding no_entries
none_read cells places is = record {
  count = ap length is ∙ length-replicate place_count nothing;
  so_far = record {
    entries_are = record { are = λ place e at. absurd (none-some e at); once = λ place e at. absurd (none-some e at) };
    cells_are = refl;
  };
  nothing = λ place _. subst (λ (l : List (Option LedgerEntry)). entry_at l place ≡ None) (sym is) (none_at_first place);
}

-- one more place, with the cell that is its own
pub one_read : (cells : List (List ℕ)) (places later : List (Option LedgerEntry)) (n : ℕ) (place : Option LedgerEntry) → n < length cells → ReadSoFar cells n places
    → HoldsPlace (get_or cells n []) place → MayFollow (take n places) place → take (n + 1) later ≡ take n places ++ place ∷ [] → length later ≡ length places
    → ((k : ℕ) → n + 1 ≤ k → entry_at later k ≡ None) → ReadSoFar cells (n + 1) later
one_read cells places later n place inside read holds may next size nothing = record {
  count = size ∙ read.count;
  so_far = record {
    entries_are = subst AreLedgerEntries (sym next) (push_place (take n places) place read.so_far.entries_are may);
    cells_are = cells_more cells places later n place inside read.so_far.cells_are holds.cell_is next;
  };
  nothing = nothing;
}

pub empty_read : (cells : List (List ℕ)) (places : List (Option LedgerEntry)) (n : ℕ) → length cells ≡ place_count → n < 256 → ReadSoFar cells n places
    → HoldsPlace (get_or cells n []) None → ReadSoFar cells (n + 1) places
unfolding place_count
empty_read cells places n count below read holds =
    one_read cells places places n None (omega (arith, count, below)) read holds (λ e at. absurd (none-some e at))
    (take_more places n None (omega (arith, read.count, below)) ∙ ap (λ p. take n places ++ p ∷ []) (read.nothing n (omega arith))) refl
    (λ k above. read.nothing k (omega (arith, above)))

pub entry_read : (cells : List (List ℕ)) (places : List (Option LedgerEntry)) (n : ℕ) (e : LedgerEntry) → length cells ≡ place_count → n < 256 → ReadSoFar cells n places
    → HoldsPlace (get_or cells n []) (Some e) → (place_for e.uid e.id (take n places) < n → ⊥) → ReadSoFar cells (n + 1) (set places n (Some e))
unfolding place_count
entry_read cells places n e count below read holds new =
    let inside : n < length places = omega (arith, read.count, below) in
    let long : length (take n places) ≡ n = length-take-le n places (omega (arith, inside)) in
    one_read cells places (set places n (Some e)) n (Some e) (omega (arith, count, below)) read holds
    (λ f at. let same : e ≡ f = same_Some e f at in
    subst (λ (x : LedgerEntry). IsEntry x × (place_for x.uid x.id (take n places) ≡ length (take n places))) same
    (holds.is_place, not_before e (take n places) n long new))
    (take_more_set places n (Some e) inside) (length-set places n (Some e)) (none_behind places n (Some e) read.nothing)

pub read_all : (cells : List (List ℕ)) (places : List (Option LedgerEntry)) → length cells ≡ place_count → ReadSoFar cells 256 places → HoldEntries cells places
unfolding place_count
read_all cells places count read = record {
  entries_are = subst AreLedgerEntries (take_all 256 places (omega (arith, read.count))) read.so_far.entries_are;
  cells_are = sym (take_all 256 cells (omega (arith, count))) ∙ read.so_far.cells_are ∙ ap ledger_cells (take_all 256 places (omega (arith, read.count)));
}

-- ---- a bad one is after them

pub bad_read : (cells : List (List ℕ)) (places : List (Option LedgerEntry)) (n : ℕ) → length cells ≡ place_count → n < 256 → ReadSoFar cells n places
    → ((place : Option LedgerEntry) → HoldsPlace (get_or cells n []) place → ⊥) → FirstBadEntry cells n
unfolding place_count
bad_read cells places n count below read none = record { below = omega (arith, count, below); front = take n places; before = read.so_far; is_bad = inl none }

pub repeated_read : (cells : List (List ℕ)) (places : List (Option LedgerEntry)) (n : ℕ) (e : LedgerEntry) → length cells ≡ place_count → n < 256 → ReadSoFar cells n places
    → HoldsPlace (get_or cells n []) (Some e) → place_for e.uid e.id (take n places) < n → FirstBadEntry cells n
unfolding place_count
repeated_read cells places n e count below read holds found =
    let long : length (take n places) ≡ n = length-take-le n places (omega (arith, read.count, below)) in
    record { below = omega (arith, count, below); front = take n places; before = read.so_far; is_bad = inr (e, holds, omega (arith, found, long)) }
