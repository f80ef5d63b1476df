-- The image of a fresh store, cell by cell.
use Rattle.std.proofs.Common.{◌≡◌, ◌≢◌, ℕ, ◌+◌, ◌*◌, ◌<◌, ◌≤◌, ◌⊎◌, inl, inr, Some, List, [], ◌++◌, length, take, drop, replicate, refl, sym, ap, subst, ◌∙◌, arith, length-append}
use Rattle.std.specs.List.{flat_map}
use Rattle.std.proofs.lemmas.Bool.{cases_lt}
use Rattle.std.proofs.lemmas.List.{get_or-replicate, length-replicate, take_all}
use Rattle.cut_disk.specs.Images.{splice}
use Rattle.cut_disk.proofs.CallerLemmas.{splice-beside, length-splice}
use Rattle.cell_store.specs.declared.kinds.Version.TheVariants.{One}
use Rattle.cell_store.specs.Layout.{SameOutside, part, header, twin_layout}
use Rattle.cell_store.specs.Twin.{first_at, second_at, cell_of, cell_at, fresh_cell}
use Rattle.cell_store.specs.Store.{fresh_cells, fresh_store}
use Rattle.cell_store.proofs.CallerLemmas.{part-same, part-splice, SameOutside-splice, length-header, Sized, length-pairs, length-fresh_cell, cell_at-fresh, splice_more, splice-none, splice-all}

-- two images that differ in one cell alone hold the same in every other
pub cell_beside : (x y : List ℕ) (i j : ℕ) → SameOutside (first_at i) 68 x y → j ≢ i → cell_at y j ≡ cell_at x j
unfolding cell_at
cell_beside x y i j same ne =
    let apart : (j < i) ⊎ (i < j) = elim (cases_lt j i) [ inl before ↦ inl before | inr from ↦ elim (cases_lt i j) [ inl behind ↦ inr behind | inr to ↦ absurd (ne (omega arith)) ] ] in
    let first : part (first_at j) 34 y ≡ part (first_at j) 34 x = part-same (first_at j) 34 (first_at i) 68 x y same (elim apart [ inl l ↦ inl (omega arith) | inr r ↦ inr (omega arith) ]) in
    let second : part (second_at j) 34 y ≡ part (second_at j) 34 x = part-same (second_at j) 34 (first_at i) 68 x y same (elim apart [ inl l ↦ inl (omega arith) | inr r ↦ inr (omega arith) ]) in
    ap (λ (c : List ℕ). cell_of c (part (second_at j) 34 y)) first ∙ ap (λ (c : List ℕ). cell_of (part (first_at j) 34 x) c) second

module _ (x : List ℕ) (i : ℕ) (c : List ℕ) (sized : length c ≡ 32) (room : first_at i + 68 ≤ length x) where
  wide : length (fresh_cell c) ≡ 68
  wide = length-fresh_cell c sized

  pub made_cell : cell_at (splice (first_at i) (fresh_cell c) x) i ≡ Some c
  made_cell = cell_at-fresh (splice (first_at i) (fresh_cell c) x) i c sized (part-splice (first_at i) 68 (fresh_cell c) x (sym wide) (let w = wide in omega arith))

  pub made_others : (j : ℕ) → j ≢ i → cell_at (splice (first_at i) (fresh_cell c) x) j ≡ cell_at x j
  made_others j ne = cell_beside x (splice (first_at i) (fresh_cell c) x) i j (subst (λ n. SameOutside (first_at i) n x (splice (first_at i) (fresh_cell c) x)) wide (SameOutside-splice (first_at i) (fresh_cell c) x (let w = wide in omega arith))) ne

-- a head over the first bytes
pub head_made : (h x new : List ℕ) → length h ≡ 32 → new ≡ h → new ++ drop 32 x ≡ splice 0 h x
unfolding splice
head_made h x new long e = ap (λ (a : List ℕ). a ++ drop 32 x) e ∙ (let n : 32 ≡ 0 + length h = omega (arith, long) in ap (λ n. h ++ drop n x) n)

-- a cell of zero bytes, and n of them
abbrev pub blank : List ℕ
blank = replicate 32 0

abbrev pub blanks : ℕ → List (List ℕ)
blanks n = replicate n blank

pub blanks_sized : (n : ℕ) → Sized (blanks n)
blanks_sized n i below = ap length (get_or-replicate n i blank [] (let l = length-replicate n blank in omega arith))

-- the header, and of the cells so many
abbrev pub MadeSoFar : ℕ → ℕ → List ℕ → List ℕ → Type 0
MadeSoFar n i start now = now ≡ splice 32 (flat_map fresh_cell (take i (blanks n))) (splice 0 (header (twin_layout One) n) start)

pub made_none : (n : ℕ) (start now : List ℕ) → now ≡ splice 0 (header (twin_layout One) n) start → MadeSoFar n 0 start now
made_none n start now e = e ∙ sym (splice-none 32 (splice 0 (header (twin_layout One) n) start))

pub length_made : (n : ℕ) (start : List ℕ) → 32 ≤ length start → length (splice 0 (header (twin_layout One) n) start) ≡ length start
length_made n start room = let head = length-header (twin_layout One) n in length-splice 0 (header (twin_layout One) n) start (omega (arith, head))

pub length_cell : (i : ℕ) (x : List ℕ) → first_at i + 68 ≤ length x → length (splice (first_at i) (fresh_cell blank) x) ≡ length x
length_cell i x room = let w : length (fresh_cell blank) ≡ 68 = length-fresh_cell blank refl in length-splice (first_at i) (fresh_cell blank) x (omega (arith, w))

pub made_more : (n i : ℕ) (start now next : List ℕ) → i < n → 32 + 68 * n ≤ length (splice 0 (header (twin_layout One) n) start) → MadeSoFar n i start now → next ≡ splice (first_at i) (fresh_cell blank) now → MadeSoFar n (i + 1) start next
made_more n i start now next below room so_far e =
    let z = splice 0 (header (twin_layout One) n) start in
    let count = length-replicate n blank in
    e ∙ (ap (λ (w : List ℕ). splice (first_at i) (fresh_cell blank) w) so_far
    ∙ (ap (λ (c : List ℕ). splice (first_at i) (fresh_cell c) (splice 32 (flat_map fresh_cell (take i (blanks n))) z)) (sym (get_or-replicate n i blank [] below))
    ∙ splice_more 32 (blanks n) i z (blanks_sized n) (omega (arith, count)) (omega (arith, count))))

pub made_all : (n i : ℕ) (start now : List ℕ) → n ≤ i → length start ≡ 32 + 68 * n → MadeSoFar n i start now → now ≡ fresh_store (twin_layout One) (blanks n)
unfolding fresh_cells
made_all n i start now whole size so_far =
    let count : length (blanks n) ≡ n = length-replicate n blank in
    let h = header (twin_layout One) n in
    let p = flat_map fresh_cell (blanks n) in
    let head : length (header (twin_layout One) n) ≡ 32 = length-header (twin_layout One) n in
    let at : 32 ≡ 0 + length (header (twin_layout One) n) = omega (arith, head) in
    let wide : length (flat_map fresh_cell (blanks n)) ≡ 68 * n = length-pairs (blanks n) (blanks_sized n) ∙ ap (λ k. 68 * k) count in
    so_far
    ∙ (ap (λ (cells : List (List ℕ)). splice 32 (flat_map fresh_cell cells) (splice 0 h start)) (take_all i (blanks n) (omega (arith, count)))
    ∙ (ap (λ k. splice k p (splice 0 h start)) at
    ∙ (splice-beside 0 h p start (omega (arith, head, wide))
    ∙ (splice-all (h ++ p) start (length-append h p ∙ omega (arith, head, wide, size))
    ∙ ap (λ k. header (twin_layout One) k ++ p) (sym count)))))
