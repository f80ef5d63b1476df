-- Parts of lists that are the same, and parts of a list after a splice.
use Rattle.std.proofs.Common.{◌≡◌, ℕ, ◌+◌, ◌-◌, ◌<◌, ◌≤◌, ◌⊎◌, inl, inr, List, ◌++◌, length, take, drop, get_or, refl, sym, ap, ◌∙◌, arith, length-take, length-drop}
use Rattle.std.proofs.lemmas.List.{ext_get_or, get_or-take, get_or-drop, append_assoc, drop_at}
use Rattle.std.proofs.lemmas.Bool.{cases_lt}
use Rattle.cut_disk.specs.Images.{splice}
use Rattle.cut_disk.proofs.CallerLemmas.{length-splice, get_or-splice_before, get_or-splice_in, get_or-splice_behind}
use Rattle.cell_store.specs.Layout.{part, SameOutside}

pub length-part : (at n : ℕ) (x : List ℕ) → at + n ≤ length x → length (part at n x) ≡ n
length-part at n x h = simp (length-take, length-drop) (omega arith)

pub get_or-part : (at n : ℕ) (x : List ℕ) (k : ℕ) → k < n → get_or (part at n x) k 0 ≡ get_or x (at + k) 0
get_or-part at n x k h = rw (get_or-take n (drop at x) k 0 h) (get_or-drop at x k 0)

-- a part that lies outside of what changed
pub part-same : (at n lo k : ℕ) (x y : List ℕ) → SameOutside lo k x y → (at + n ≤ lo) ⊎ (lo + k ≤ at) → part at n y ≡ part at n x
part-same at n lo k x y s out = ext_get_or 0 (part at n y) (part at n x) lengths each where
  lengths : length (part at n y) ≡ length (part at n x)
  lengths = simp (length-take, length-drop) (omega (arith, s.lengths))

  each : (j : ℕ) → j < length (part at n y) → get_or (part at n y) j 0 ≡ get_or (part at n x) j 0
  each j h =
      let small : j < n = let e = length-take n (drop at y) in omega arith in
      rw (get_or-part at n y j small, get_or-part at n x j small)
      (elim out [ inl b ↦ s.below (at + j) (omega arith) | inr a ↦ s.above (at + j) (omega arith) ])

pub SameOutside-splice : (at : ℕ) (bs x : List ℕ) → at + length bs ≤ length x → SameOutside at (length bs) x (splice at bs x)
SameOutside-splice at bs x h = record {
  lengths = length-splice at bs x h;
  below = λ k l. get_or-splice_before at bs x k 0 h l;
  above = λ k l. get_or-splice_behind at bs x k 0 h l;
}

pub part-splice : (at n : ℕ) (bs x : List ℕ) → n ≡ length bs → at + length bs ≤ length x → part at n (splice at bs x) ≡ bs
part-splice at n bs x e h = ext_get_or 0 (part at n (splice at bs x)) bs lengths each where
  whole : length (splice at bs x) ≡ length x
  whole = length-splice at bs x h

  lengths : length (part at n (splice at bs x)) ≡ length bs
  lengths = length-part at n (splice at bs x) (omega (arith, whole, e, h)) ∙ e

  each : (j : ℕ) → j < length (part at n (splice at bs x)) → get_or (part at n (splice at bs x)) j 0 ≡ get_or bs j 0
  each j l =
      let small : j < length bs = omega (arith, lengths, l) in
      get_or-part at n (splice at bs x) j (omega arith)
      ∙ (get_or-splice_in at bs x (at + j) 0 h (omega arith) (omega arith)
      ∙ (let f : at + j - at ≡ j = omega arith in rw f refl))

-- a change within a wider range
pub SameOutside-widen : (at n lo k : ℕ) (x y : List ℕ) → lo ≤ at → at + n ≤ lo + k → SameOutside at n x y → SameOutside lo k x y
SameOutside-widen at n lo k x y l r s = record {
  lengths = s.lengths;
  below = λ j h. s.below j (omega arith);
  above = λ j h. s.above j (omega arith);
}

pub SameOutside-after : (at n : ℕ) (x y z : List ℕ) → SameOutside at n x y → SameOutside at n y z → SameOutside at n x z
SameOutside-after at n x y z s t = record {
  lengths = t.lengths ∙ s.lengths;
  below = λ j h. t.below j h ∙ s.below j h;
  above = λ j h. t.above j h ∙ s.above j h;
}

pub SameOutside-refl : (at n : ℕ) (x : List ℕ) → SameOutside at n x x
SameOutside-refl at n x = record { lengths = refl; below = λ _ _. refl; above = λ _ _. refl }

-- a change behind a base, seen from the base on
pub SameOutside-drop : (b at n : ℕ) (x y : List ℕ) → SameOutside (b + at) n x y → SameOutside at n (drop b x) (drop b y)
SameOutside-drop b at n x y s = record {
  lengths = simp (length-drop) (omega (arith, s.lengths));
  below = λ k l. rw (get_or-drop b y k 0, get_or-drop b x k 0) (s.below (b + k) (omega arith));
  above = λ k l. rw (get_or-drop b y k 0, get_or-drop b x k 0) (s.above (b + k) (omega arith));
}

pub part-drop : (b at n : ℕ) (x : List ℕ) → b + at + n ≤ length x → part at n (drop b x) ≡ part (b + at) n x
part-drop b at n x h = ext_get_or 0 _ _ (length-part at n (drop b x) (simp (length-drop) (omega arith)) ∙ sym (length-part (b + at) n x (omega arith))) (λ j l.
    let small : j < n = omega (arith, length-part at n (drop b x) (simp (length-drop) (omega arith))) in
    rw (get_or-part at n (drop b x) j small, get_or-part (b + at) n x j small, get_or-drop b x (at + j) 0)
    (let e : b + (at + j) ≡ b + at + j = omega arith in ap (λ k. get_or x k 0) e))

-- a splice behind a base, seen from the base on
pub splice-drop : (b at : ℕ) (bs x : List ℕ) → b + at + length bs ≤ length x → drop b (splice (b + at) bs x) ≡ splice at bs (drop b x)
splice-drop b at bs x room = ext_get_or 0 _ _ (simp (length-drop) (omega (arith, whole, inner, length-drop b x))) each where
  fits : at + length bs ≤ length (drop b x)
  fits = omega (arith, length-drop b x)

  whole : length (splice (b + at) bs x) ≡ length x
  whole = length-splice (b + at) bs x room

  inner : length (splice at bs (drop b x)) ≡ length (drop b x)
  inner = length-splice at bs (drop b x) fits

  each : (k : ℕ) → k < length (drop b (splice (b + at) bs x)) → get_or (drop b (splice (b + at) bs x)) k 0 ≡ get_or (splice at bs (drop b x)) k 0
  each k l = get_or-drop b (splice (b + at) bs x) k 0 ∙ elim (cases_lt k at) [
    | inl before ↦ get_or-splice_before (b + at) bs x (b + k) 0 room (omega arith) ∙ sym (get_or-splice_before at bs (drop b x) k 0 fits before ∙ get_or-drop b x k 0)
    | inr from ↦ elim (cases_lt k (at + length bs)) [
      | inl to ↦ (let e : b + k - (b + at) ≡ k - at = omega arith in
          get_or-splice_in (b + at) bs x (b + k) 0 room (omega arith) (omega arith) ∙ ap (λ j. get_or bs j 0) e ∙ sym (get_or-splice_in at bs (drop b x) k 0 fits from to))
      | inr past ↦ get_or-splice_behind (b + at) bs x (b + k) 0 room (omega arith) ∙ sym (get_or-splice_behind at bs (drop b x) k 0 fits past ∙ get_or-drop b x k 0)
    ]
  ]

-- a splice at the base itself
pub splice-at_base : (b : ℕ) (bs x : List ℕ) → b ≤ length x → drop b (splice b bs x) ≡ bs ++ drop (b + length bs) x
unfolding splice
splice-at_base b bs x room =
    ap (drop b) (append_assoc (take b x) bs (drop (b + length bs) x))
    ∙ drop_at (take b x) (bs ++ drop (b + length bs) x) b (omega (arith, length-take b x))
