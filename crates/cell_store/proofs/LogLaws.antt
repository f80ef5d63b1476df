-- What a change of one free place, or of the bank that doesn't count, leaves of a log store.
use Rattle.std.proofs.Common.{◌≡◌, ◌≢◌, ℕ, zero, suc, ◌+◌, ◌*◌, ◌^◌, ◌<◌, ◌≤◌, ◌⊎◌, inl, inr, List, [], ◌++◌, length, refl, sym, ◌∙◌, arith}
use Rattle.std.proofs.lemmas.List.{ext_get_or}
use Rattle.std.proofs.lemmas.List.FromFn.{get_or-map-range_with_len, length-map-range_with_len}
use Rattle.std.proofs.lemmas.Bool.{cases_order}
use Rattle.basics.specs.Numbers.{number_of, bytes_of}
use Rattle.basics.proofs.CallerLemmas.{number_of-bytes_of-lt}
use Rattle.cell_store.specs.declared.copies.Side.{Side}
use Rattle.cell_store.specs.declared.copies.Side.TheVariants.{First, Second}
use Rattle.cell_store.specs.Layout.{part, SameOutside}
use Rattle.cell_store.proofs.LayoutLaws.{part-same}
use Rattle.cell_store.specs.Log.{log_size, bank_at, bank_head, bank_cell, bank_cells, place_at, place, number, content, listed, live_record}

-- where banks and places stand
pub bank_bounds : (n : ℕ) (side : Side) → (32 ≤ bank_at n side) × (bank_at n side + 2242 + 32 * n ≤ log_size n)
bank_bounds n First = (omega arith, omega arith)
bank_bounds n Second = (omega arith, omega arith)

-- a place of a bank and the head of a bank stand apart
head_apart : (n : ℕ) (side that : Side) (p : ℕ) → p < 64 → (bank_at n that + 2 ≤ place_at n side p) ⊎ (place_at n side p + 35 ≤ bank_at n that)
head_apart n First First p l = inl (omega arith)
head_apart n First Second p l = inr (omega arith)
head_apart n Second First p l = inl (omega arith)
head_apart n Second Second p l = inl (omega arith)

-- the list of a bank, if its cells and so many of its places are the same
pub listed-same : (n : ℕ) (side : Side) (x y : List ℕ) (used : ℕ)
    → ((i : ℕ) → i < n → bank_cell n side y i ≡ bank_cell n side x i)
    → ((p : ℕ) → p < used → place n side y p ≡ place n side x p)
    → listed n side y used ≡ listed n side x used
listed-same n side x y zero cells places =
    ext_get_or [] (bank_cells n side y) (bank_cells n side x) (length-map-range_with_len (bank_cell n side y) 0 n ∙ sym (length-map-range_with_len (bank_cell n side x) 0 n)) (λ i l.
    let small : i < n = omega (arith, length-map-range_with_len (bank_cell n side y) 0 n) in
    get_or-map-range_with_len (bank_cell n side y) 0 n i i [] small (omega arith) ∙ (cells i small ∙ sym (get_or-map-range_with_len (bank_cell n side x) 0 n i i [] small (omega arith))))
listed-same n side x y (suc used) cells places =
    let e : listed n side y used ≡ listed n side x used = listed-same n side x y used cells (λ p l. places p (omega arith)) in
    let f : place n side y used ≡ place n side x used = places used (omega arith) in
    rw (e, f) refl

-- one free place has changed
module _ (n : ℕ) (side : Side) (used : ℕ) (x y : List ℕ) (free : used < 64) (s : SameOutside (place_at n side used) 35 x y) where
  pub header-kept : part 0 32 y ≡ part 0 32 x
  header-kept = let b = bank_bounds n side in part-same 0 32 _ 35 x y s (inl (omega arith))

  pub heads-kept : (that : Side) → bank_head n that y ≡ bank_head n that x
  heads-kept that = part-same (bank_at n that) 2 _ 35 x y s (head_apart n side that used free)

  pub cells-kept : (i : ℕ) → i < n → bank_cell n side y i ≡ bank_cell n side x i
  cells-kept i l = part-same (bank_at n side + 2 + 32 * i) 32 _ 35 x y s (inl (omega arith))

  pub places-kept : (p : ℕ) → p ≢ used → place n side y p ≡ place n side x p
  places-kept p ne = part-same (place_at n side p) 35 _ 35 x y s (elim (cases_order p used) [
    | inl e ↦ absurd (ne e)
    | inr order ↦ elim order [ inl l ↦ inl (omega arith) | inr l ↦ inr (omega arith) ]
  ])

  pub list-kept : listed n side y used ≡ listed n side x used
  list-kept = listed-same n side x y used cells-kept (λ p l. places-kept p (λ e. let z = e in absurd (omega arith)))

-- what a live record tells
pub number-live : (i : ℕ) (c : List ℕ) → i < 2 ^ 16 → number (live_record i c) ≡ i
unfolding bytes_of
number-live i c small = let e : number_of (bytes_of 2 i) ≡ i = number_of-bytes_of-lt 2 i (omega arith) in e

pub content-live : (i : ℕ) (c : List ℕ) → content (live_record i c) ≡ c
unfolding bytes_of
content-live i c = refl

pub length-live_record : (i : ℕ) (c : List ℕ) → length (live_record i c) ≡ 3 + length c
unfolding bytes_of
length-live_record i c = let e : suc (suc (suc (length c))) ≡ 3 + length c = omega arith in e

pub long-rest : (i : ℕ) (c : List ℕ) → length (bytes_of 2 i ++ c) ≡ 2 + length c
unfolding bytes_of
long-rest i c = let e : suc (suc (length c)) ≡ 2 + length c = omega arith in e
