-- The stages of a put: a gate is closed, the copy behind it is filled, and the gate is opened. What each leaves.
use Rattle.std.proofs.Common.{◌≡◌, ℕ, suc, ◌+◌, ◌-◌, ◌<◌, ◌≤◌, inl, inr, Bool, true, false, if◌then◌else◌, eqb, Option, Some, Result, Ok, Err, OnOk, OnErr, List, [], ◌∷◌, length, refl, sym, ap, subst, ◌∙◌, arith, get_or}
use Rattle.std.proofs.lemmas.List.{ext_get_or}
use Rattle.std.proofs.lemmas.Bool.{cases_lt, cases_eq, cases_Bool, eqb-true}
use Rattle.cut_disk.specs.State.{Told}
use Rattle.std.proofs.lemmas.Option.{same_Some}
use Rattle.cut_disk.specs.Images.{splice, firm, Image}
use Rattle.cut_disk.proofs.CallerLemmas.{image_of_firm}
use Rattle.cut_disk.proofs.CallerLemmas.{length-splice, get_or-splice_before, get_or-splice_in, get_or-splice_behind}
use Rattle.cell_store.specs.Layout.{part, SameOutside}
use Rattle.cell_store.proofs.LayoutLaws.{get_or-part, part-splice, SameOutside-splice, SameOutside-widen, SameOutside-after}
use Rattle.cell_store.specs.Twin.{is_live}
use Rattle.cut_disk.specs.Lasting.{Lasts}
use Rattle.cell_store.specs.Writing.{LeavesOutside, ClosesGate, LeavesUnfinished}

-- whether the copy at a place is live, by its first byte
pub is_live-part : (n at : ℕ) (x : List ℕ) → is_live (part at (suc n) x) ≡ eqb (get_or x at 0) 167
unfolding is_live
is_live-part n at x = ap (λ b. eqb b 167) (get_or-part at (suc n) x 0 (omega arith) ∙ (let e : at + 0 ≡ at = omega arith in ap (λ k. get_or x k 0) e))

-- if one byte may have changed and it is what it was, nothing has
pub same_byte : (at : ℕ) (x y : List ℕ) → SameOutside at 1 x y → get_or y at 0 ≡ get_or x at 0 → y ≡ x
same_byte at x y s e = ext_get_or 0 y x s.lengths (λ k l. elim (cases_eq k at) [
  | inl is ↦ subst (λ m. get_or y m 0 ≡ get_or x m 0) (sym is) e
  | inr ne ↦ elim (cases_lt k at) [ inl b ↦ s.below k b | inr a ↦ s.above k (omega arith) ]
])

module _ (n at : ℕ) (copy : List ℕ) (a b : Option Told) where
  -- the gate of a live copy is being closed: it is still open, so that nothing has changed, or it is closed
  pub closing : ((t : Told) → a ≡ Some t → is_live (part at (suc n) t.bytes) ≡ true) → LeavesOutside at 1 a b → LeavesUnfinished n at copy a b
  closing live l x told t is y image =
      let s : SameOutside at 1 x y = l x told t is y image in
      record {
        same = SameOutside-widen at 1 at (suc n) x y (omega arith) (omega arith) s;
        spare = elim (cases_Bool (is_live (part at (suc n) y))) [
          | inr closed ↦ inl closed
          | inl opened ↦ inr (inl (
              let now : get_or y at 0 ≡ 167 = eqb-true _ _ (sym (is_live-part n at y) ∙ opened) in
              let was : get_or x at 0 ≡ 167 = eqb-true _ _ (sym (is_live-part n at x) ∙ live (firm x) told) in
              ap (part at (suc n)) (same_byte at x y s (now ∙ sym was))))
        ];
      }

pub closed-write : (n at : ℕ) (a b : Option Told) → ((t : Told) → a ≡ Some t → at + 1 ≤ length t.bytes) → Lasts at (0 ∷ []) a b → ClosesGate n at a b
closed-write n at a b inside w t told = record {
  now = firm (splice at (0 ∷ []) t.bytes);
  told = w t told;
  same = SameOutside-splice at (0 ∷ []) t.bytes (let i = inside t told in omega arith);
  closed =
      let gate : get_or (splice at (0 ∷ []) t.bytes) at 0 ≡ 0 =
      let i = inside t told in
      let e : at - at ≡ 0 = omega arith in
      get_or-splice_in at (0 ∷ []) t.bytes at 0 (omega arith) (omega arith) (omega arith) ∙ ap (λ k. get_or (0 ∷ []) k 0) e in
      is_live-part n at (splice at (0 ∷ []) t.bytes) ∙ ap (λ b. eqb b 167) gate;
  still_firm = λ _. refl;
}

pub closed-already : (n at : ℕ) (a : Option Told) → ((t : Told) → a ≡ Some t → is_live (part at (suc n) t.bytes) ≡ false) → ClosesGate n at a a
closed-already n at a closed t told = record {
  now = t;
  told = told;
  same = record { lengths = refl; below = λ _ _. refl; above = λ _ _. refl };
  closed = closed t told;
  still_firm = λ e. e;
}

-- a copy is being filled behind a closed gate: its gate stays closed
pub filling : (n at : ℕ) (copy : List ℕ) (a b c : Option Told) → ClosesGate n at a b → LeavesOutside (at + 1) n b c → LeavesUnfinished n at copy a c
filling n at copy a b c closes l x told t is y image =
    let g = closes (firm x) told in
    let s : SameOutside (at + 1) n g.now.bytes y = l g.now.bytes (g.told ∙ ap Some (g.still_firm refl)) t is y image in
    record {
      same = SameOutside-after at (suc n) x g.now.bytes y (SameOutside-widen at 1 at (suc n) x g.now.bytes (omega arith) (omega arith) g.same) (SameOutside-widen (at + 1) n at (suc n) g.now.bytes y (omega arith) (omega arith) s);
      spare = inl (is_live-part n at y ∙ (ap (λ b. eqb b 167) (s.below at (omega arith)) ∙ (sym (is_live-part n at g.now.bytes) ∙ g.closed)));
    }

-- a copy in two steps: all but its gate, and then its gate
pub splice-gate : (n at gate : ℕ) (rest x y : List ℕ) → length rest ≡ n → at + suc n ≤ length x → SameOutside at 1 x y → splice at (gate ∷ []) (splice (at + 1) rest y) ≡ splice at (gate ∷ rest) x
splice-gate n at gate rest x y sized inside s = ext_get_or 0 _ _ lengths each where
  inner : at + 1 + length rest ≤ length y
  inner = let e = s.lengths in omega (arith, sized, inside)

  mid : length (splice (at + 1) rest y) ≡ length y
  mid = length-splice (at + 1) rest y inner

  outer : at + length (gate ∷ []) ≤ length (splice (at + 1) rest y)
  outer = let e = s.lengths in let m = mid in omega (arith, inside)

  whole : at + length (gate ∷ rest) ≤ length x
  whole = let m : length (gate ∷ rest) ≡ suc n = ap suc sized in omega (arith, inside)

  lengths : length (splice at (gate ∷ []) (splice (at + 1) rest y)) ≡ length (splice at (gate ∷ rest) x)
  lengths = length-splice at (gate ∷ []) (splice (at + 1) rest y) outer ∙ (mid ∙ (s.lengths ∙ sym (length-splice at (gate ∷ rest) x whole)))

  each : (k : ℕ) → k < length (splice at (gate ∷ []) (splice (at + 1) rest y)) → get_or (splice at (gate ∷ []) (splice (at + 1) rest y)) k 0 ≡ get_or (splice at (gate ∷ rest) x) k 0
  each k l = elim (cases_lt k at) [
    | inl b ↦ get_or-splice_before at (gate ∷ []) _ k 0 outer b ∙ (get_or-splice_before (at + 1) rest y k 0 inner (omega arith) ∙ (s.below k b ∙ sym (get_or-splice_before at (gate ∷ rest) x k 0 whole b)))
    | inr a ↦ elim (cases_eq k at) [
      | inl e ↦ (let z : k - at ≡ 0 = omega arith in get_or-splice_in at (gate ∷ []) _ k 0 outer a (omega arith) ∙ (ap (λ j. get_or (gate ∷ []) j 0) z ∙ sym (get_or-splice_in at (gate ∷ rest) x k 0 whole a (omega arith) ∙ ap (λ j. get_or (gate ∷ rest) j 0) z)))
      | inr ne ↦ elim (cases_lt k (at + suc n)) [
        | inl i ↦ (let z : k - at ≡ suc (k - (at + 1)) = omega arith in
            get_or-splice_behind at (gate ∷ []) _ k 0 outer (omega arith) ∙ (get_or-splice_in (at + 1) rest y k 0 inner (omega arith) (omega (arith, sized)) ∙ sym (get_or-splice_in at (gate ∷ rest) x k 0 whole a (let m : length (gate ∷ rest) ≡ suc n = ap suc sized in omega arith) ∙ ap (λ j. get_or (gate ∷ rest) j 0) z)))
        | inr o ↦ get_or-splice_behind at (gate ∷ []) _ k 0 outer (omega arith) ∙ (get_or-splice_behind (at + 1) rest y k 0 inner (omega (arith, sized)) ∙ (s.above k (omega arith) ∙ sym (get_or-splice_behind at (gate ∷ rest) x k 0 whole (let m : length (gate ∷ rest) ≡ suc n = ap suc sized in omega arith))))
      ]
    ]
  ]

SameOutside-back : (at n : ℕ) (x y : List ℕ) → SameOutside at n x y → SameOutside at n y x
SameOutside-back at n x y s = record { lengths = sym s.lengths; below = λ k h. sym (s.below k h); above = λ k h. sym (s.above k h) }

-- a copy whose gate reads as open, over a filled one, is the whole new copy
opened-part : (n at : ℕ) (rest x filled y : List ℕ) → SameOutside at 1 filled y → get_or y at 0 ≡ 167 → splice at (167 ∷ []) filled ≡ splice at (167 ∷ rest) x → at + suc n ≤ length x → length filled ≡ length x → length rest ≡ n → part at (suc n) y ≡ 167 ∷ rest
opened-part n at rest x filled y s now made room same sized =
    let m : length (167 ∷ rest) ≡ suc n = ap suc sized in
    let whole : at + length (167 ∷ rest) ≤ length x = omega arith in
    let inner : at + length {A = ℕ} (167 ∷ []) ≤ length filled = omega arith in
    let one : SameOutside at 1 filled (splice at (167 ∷ []) filled) = SameOutside-splice at (167 ∷ []) filled inner in
    let gate : get_or (splice at (167 ∷ []) filled) at 0 ≡ 167 =
    let e : at - at ≡ 0 = omega arith in
    get_or-splice_in at (167 ∷ []) filled at 0 inner (omega arith) (omega arith) ∙ ap (λ k. get_or (167 ∷ []) k 0) e in
    let is : y ≡ splice at (167 ∷ []) filled = same_byte at (splice at (167 ∷ []) filled) y (SameOutside-after at 1 _ filled y (SameOutside-back at 1 filled _ one) s) (now ∙ sym gate) in
    ap (part at (suc n)) (is ∙ made) ∙ part-splice at (suc n) (167 ∷ rest) x (sym m) whole

module _ (n at : ℕ) (rest : List ℕ) (sized : length rest ≡ n) (a b c d : Option Told) (inside : (t : Told) → a ≡ Some t → at + suc n ≤ length t.bytes) where
  -- the gate of a filled copy is being opened: the copy is closed, or it is the new one
  pub opening : ClosesGate n at a b → Lasts (at + 1) rest b c → LeavesOutside at 1 c d → LeavesUnfinished n at (167 ∷ rest) a d
  opening closes fills l x told t is y image =
      let g = closes (firm x) told in
      let filled : List ℕ = splice (at + 1) rest g.now.bytes in
      let s : SameOutside at 1 filled y = l filled (fills g.now g.told) t is y image in
      let room : at + suc n ≤ length x = inside (firm x) told in
      let inner : at + 1 + length rest ≤ length g.now.bytes = (let e = g.same.lengths in omega (arith, sized)) in
      let f : SameOutside (at + 1) (length rest) g.now.bytes filled = SameOutside-splice (at + 1) rest g.now.bytes inner in
      record {
        same = SameOutside-after at (suc n) x g.now.bytes y (SameOutside-widen at 1 at (suc n) x g.now.bytes (omega arith) (omega arith) g.same)
            (SameOutside-after at (suc n) g.now.bytes filled y (SameOutside-widen (at + 1) (length rest) at (suc n) g.now.bytes filled (omega arith) (omega (arith, sized)) f) (SameOutside-widen at 1 at (suc n) filled y (omega arith) (omega arith) s));
        spare = elim (cases_Bool (is_live (part at (suc n) y))) [
          | inr closed ↦ inl closed
          | inl opened ↦ inr (inr (
              let now : get_or y at 0 ≡ 167 = eqb-true _ _ (sym (is_live-part n at y) ∙ opened) in
              let made : splice at (167 ∷ []) filled ≡ splice at (167 ∷ rest) x = splice-gate n at 167 rest x g.now.bytes sized room g.same in
              opened-part n at rest x filled y s now made room (length-splice (at + 1) rest g.now.bytes inner ∙ g.same.lengths) sized))
        ];
      }

  pub opened : ClosesGate n at a b → Lasts (at + 1) rest b c → Lasts at (167 ∷ []) c d → Lasts at (167 ∷ rest) a d
  opened closes fills opens t told =
      let g = closes t told in
      let room : at + suc n ≤ length t.bytes = inside t told in
      opens (firm (splice (at + 1) rest g.now.bytes)) (fills g.now g.told) ∙ ap (λ (x : List ℕ). Some (firm x)) (splice-gate n at 167 rest t.bytes g.now.bytes sized room g.same)

-- whether a gate is live, however many bytes behind it are seen
pub is_live-wide : (n at : ℕ) (x : List ℕ) → is_live (part at (suc n) x) ≡ is_live (part at 1 x)
is_live-wide n at x = is_live-part n at x ∙ sym (is_live-part 0 at x)

-- how many calls the stages of a put make
pub most-closing : (live : Bool) → (if live then 2 else 0) ≤ (if live then 6 else 4)
most-closing true = omega arith
most-closing false = omega arith

pub most-filling : (live : Bool) → (if live then 2 else 0) + 2 ≤ (if live then 6 else 4)
most-filling true = omega arith
most-filling false = omega arith

pub most-opening : (live : Bool) → (if live then 2 else 0) + 2 + 2 ≤ (if live then 6 else 4)
most-opening true = omega arith
most-opening false = omega arith

pub most-any : (live : Bool) → (if live then 6 else 4) ≤ 6
most-any true = omega arith
most-any false = omega arith

-- the same bytes under another name
pub gated-lasts : (at : ℕ) (a b : List ℕ) (old new : Option Told) → a ≡ b → Lasts at (167 ∷ a) old new → Lasts at (167 ∷ b) old new
gated-lasts at a b old new e l = subst (λ (c : List ℕ). Lasts at (167 ∷ c) old new) e l

pub gated-leaves : (n at : ℕ) (a b : List ℕ) (old new : Option Told) → a ≡ b → length b ≡ n → LeavesUnfinished (length a) at (167 ∷ a) old new → LeavesUnfinished n at (167 ∷ b) old new
gated-leaves n at a b old new e sized l =
    subst (λ m. LeavesUnfinished m at (167 ∷ b) old new) sized (subst (λ (c : List ℕ). LeavesUnfinished (length c) at (167 ∷ c) old new) e l)

-- an unfinished put changes nothing else, and neither does a finished one
pub unfinished-outside : (n at : ℕ) (copy : List ℕ) (a b : Option Told) → LeavesUnfinished n at copy a b → LeavesOutside at (1 + n) a b
unfinished-outside n at copy a b leaves x was t told y image = let e : suc n ≡ 1 + n = omega arith in subst (λ k. SameOutside at k x y) e (leaves x was t told y image).same

pub lasts-outside : (at n : ℕ) (bytes : List ℕ) (a b : Option Told) → length bytes ≡ n → ((t : Told) → a ≡ Some t → at + n ≤ length t.bytes) → Lasts at bytes a b → LeavesOutside at n a b
lasts-outside at n bytes a b sized inside lasts x was t told y image =
    let te : t ≡ firm (splice at bytes x) = same_Some _ _ (sym told ∙ lasts (firm x) was) in
    let ye : y ≡ splice at bytes x = image_of_firm (subst (λ (s : Told). Image s y) te image) in
    subst (λ (z : List ℕ). SameOutside at n x z) (sym ye) (subst (λ k. SameOutside at k x (splice at bytes x)) sized (SameOutside-splice at bytes x (let r = inside (firm x) was in omega arith)))

-- whatever the answer
pub either-outside : {T E : Type 0} (r : Result T E) (P : Type 0) → OnOk r P → OnErr r P → P
either-outside (Ok x) P ok err = ok
either-outside (Err e) P ok err = err
