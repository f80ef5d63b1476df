-- What a growth of a store leaves of its header and its cells, if the power goes within it.
use Rattle.std.proofs.Common.{◌≡◌, ◌≢◌, ℕ, suc, ◌+◌, ◌<◌, ◌≤◌, ◌⊎◌, inl, inr, Bool, false, true, not, ◌&&◌, ◌||◌, ◌==◌, nat_lt, Some, None, IsSome, Option, List, [], ◌∷◌, length, take, replicate, refl, sym, ap, subst, ◌∙◌, arith, rules}
use Rattle.std.proofs.lemmas.Bool.{cases_Bool, cases_lt, false≢true}
use Rattle.std.proofs.lemmas.Option.{same_Some}
use Rattle.std.proofs.lemmas.List.{places, same_lists, ext_get_or}
use Rattle.std.proofs.lemmas.Slice.Eq.{bytes_eq-Decides}
use Rattle.std.specs.Str.{bytes_eq}
use Rattle.basics.specs.Numbers.{bytes_of}
use Rattle.basics.proofs.CallerLemmas.{length-bytes_of}
use Rattle.cut_disk.specs.State.{Told}
use Rattle.cut_disk.specs.Images.{splice, firm}
use Rattle.cut_disk.proofs.CallerLemmas.{length-splice, get_or-splice_before, get_or-splice_in, get_or-splice_behind}
use Rattle.cell_store.specs.declared.kinds.Version.TheVariants.{One}
use Rattle.cell_store.specs.Layout.{SameOutside, part, header, twin_layout}
use Rattle.cell_store.specs.Twin.{twin_size, first_at, second_at, is_live, mark, next, counts, cell_of, cell_at}
use Rattle.cell_store.specs.Copies.{other, side_at, copy}
use Rattle.cell_store.specs.Store.{HasHeader}
use Rattle.cell_store.specs.Writing.{ClosesGate, Unfinished}
use Rattle.cell_store.proofs.CallerLemmas.{part-part, part-same, part-splice, closed-already, filling, opening, side_bounds, splice-gate, SameOutside-after, SameOutside-refl, SameOutside-splice, SameOutside-widen}
use Rattle.store_plan.specs.declared.planning.Plan.{Plan}
use Rattle.store_plan.specs.Plans.{PlansPut, CutWithin, in_first, in_second, in_third, applied, applied_write, WritesAt}
use Rattle.store_plan.specs.Growing.{PlansGrowth, PlansCount, HasHeadButCount, with_number, CountsFirst, IsErased, EndsErased, SaysCells, HasNoLiveCopy}
use Rattle.store_plan.proofs.GatedLaws.{no_bytes, splice-at, splice-empty}
use Rattle.store_plan.proofs.CutLaws.{apply-done, at-place, cut-unfinished, outside-firm, read-firm, same-all}

-- ---- the header

abbrev pub Head : ℕ → List ℕ → Type 0
Head n x = HasHeader (twin_layout One) n x

pub decide-head : (n : ℕ) (x : List ℕ) → Head n x ⊎ (¬ Head n x)
decide-head n x =
    let d = bytes_eq-Decides (part 0 32 x) (header (twin_layout One) n) in
    elim (cases_Bool (bytes_eq (part 0 32 x) (header (twin_layout One) n))) [
      | inl on ↦ inl (d.0 on)
      | inr off ↦ inr (λ h. false≢true (sym off ∙ d.1 h))
    ]

-- a change behind the header leaves it
head-kept : (x y : List ℕ) (at n i : ℕ) → 32 ≤ at → SameOutside at n x y → Head i x → Head i y
head-kept x y at n i behind s h = part-same 0 32 at n x y s (inl (omega (arith, behind))) ∙ h

-- a header with another number in it is the header of that number
header-counted : (i n : ℕ) → splice 10 (bytes_of 2 n) (header (twin_layout One) i) ≡ header (twin_layout One) n
unfolding splice header bytes_of
header-counted i n = refl

pub take-splice : (at n : ℕ) (new x : List ℕ) → at + length new ≤ n → n ≤ length x → take n (splice at new x) ≡ splice at new (take n x)
unfolding splice
take-splice at n new x inside room = same_lists _ _ (search (rules, places)) (λ k d h. grind (arith, places))

pub head-counted : (i n : ℕ) (x : List ℕ) → 32 ≤ length x → Head i x → HasHeadButCount x n
head-counted i n x room h =
    take-splice 10 32 (bytes_of 2 n) x (omega (arith, length-bytes_of 2 n)) room
    ∙ (ap (splice 10 (bytes_of 2 n)) h ∙ header-counted i n)

-- what is written over a place doesn't depend on what stood there
splice-over : (at : ℕ) (new x y : List ℕ) → at + length new ≤ length x → SameOutside at (length new) x y → splice at new y ≡ splice at new x
splice-over at new x y ix s =
    let lengths : length y ≡ length x = s.lengths in
    let iy : at + length new ≤ length y = omega arith in
    ext_get_or 0 (splice at new y) (splice at new x) (length-splice at new y iy ∙ (lengths ∙ sym (length-splice at new x ix))) (λ k l. elim (cases_lt k at) [
      | inl before ↦ get_or-splice_before at new y k 0 iy before ∙ (s.below k before ∙ sym (get_or-splice_before at new x k 0 ix before))
      | inr from ↦ elim (cases_lt k (at + length new)) [
        | inl within ↦ get_or-splice_in at new y k 0 iy from within ∙ sym (get_or-splice_in at new x k 0 ix from within)
        | inr behind ↦ get_or-splice_behind at new y k 0 iy behind ∙ (s.above k behind ∙ sym (get_or-splice_behind at new x k 0 ix behind))
      ]
    ])

-- whatever the two bytes of the number are then
pub but-count : (n : ℕ) (x y : List ℕ) → 12 ≤ length x → SameOutside 10 2 x y → HasHeadButCount x n → HasHeadButCount y n
but-count n x y room s h =
    let two = length-bytes_of 2 n in
    ap (part 0 32) (splice-over 10 (bytes_of 2 n) x y (omega (arith, two)) (subst (λ k. SameOutside 10 k x y) (sym two) s)) ∙ h

-- a header that is one but for its number is that of any number
pub any-count : (k n : ℕ) (x : List ℕ) → 32 ≤ length x → HasHeadButCount x k → HasHeadButCount x n
any-count k n x room h =
    let two = length-bytes_of 2 k in
    let s = subst (λ b. SameOutside 10 b x (with_number k x)) two (SameOutside-splice 10 (bytes_of 2 k) x (omega (arith, two))) in
    let back : SameOutside 10 2 (with_number k x) x = record { lengths = sym s.lengths; below = λ j l. sym (s.below j l); above = λ j l. sym (s.above j l) } in
    but-count n (with_number k x) x (let l = s.lengths in omega arith) back (head-counted k n (with_number k x) (let l = s.lengths in omega arith) h)

-- ---- cells

-- a change beside a cell leaves it
pub cell-apart : (x y : List ℕ) (j lo k : ℕ) → SameOutside lo k x y → (first_at j + 68 ≤ lo) ⊎ (lo + k ≤ first_at j) → cell_at y j ≡ cell_at x j
unfolding cell_at
cell-apart x y j lo k s out =
    let first : part (first_at j) 34 y ≡ part (first_at j) 34 x = part-same (first_at j) 34 lo k x y s (elim out [ inl l ↦ inl (omega arith) | inr r ↦ inr (omega arith) ]) in
    let second : part (second_at j) 34 y ≡ part (second_at j) 34 x = part-same (second_at j) 34 lo k x y s (elim out [ inl l ↦ inl (omega arith) | inr r ↦ inr (omega arith) ]) in
    ap (λ (c : List ℕ). cell_of c (part (second_at j) 34 y)) first ∙ ap (λ (c : List ℕ). cell_of (part (first_at j) 34 x) c) second

one_byte : (x : List ℕ) (j b : ℕ) → twin_size (j + 1) ≤ length x → part (first_at j) 68 x ≡ replicate 68 b
    → (part (first_at j) 34 x ≡ replicate 34 b) × (part (second_at j) 34 x ≡ replicate 34 b)
one_byte x j b room same =
    let at : first_at j ≡ first_at j + 0 = omega arith in
    let behind : second_at j ≡ first_at j + 34 = omega arith in (
      ap (λ n. part n 34 x) at ∙ (part-part (first_at j) 68 0 34 x (omega arith) (omega arith) ∙ ap (part 0 34) same),
      ap (λ n. part n 34 x) behind ∙ (part-part (first_at j) 68 34 34 x (omega arith) (omega arith) ∙ ap (part 34 34) same),
    )

dead-zeros : is_live (replicate 34 0) ≡ false
unfolding is_live
dead-zeros = refl

dead-ones : is_live (replicate 34 0xff) ≡ false
unfolding is_live
dead-ones = refl

-- what is erased is free
pub erased-free : (x : List ℕ) (j : ℕ) → twin_size (j + 1) ≤ length x → IsErased x j → HasNoLiveCopy x j
erased-free x j room erased = elim erased [
  | inl zeros ↦ (let two = one_byte x j 0 room zeros in record { first = ap is_live two.0 ∙ dead-zeros; second = ap is_live two.1 ∙ dead-zeros })
  | inr ones ↦ (let two = one_byte x j 0xff room ones in record { first = ap is_live two.0 ∙ dead-ones; second = ap is_live two.1 ∙ dead-ones })
]

closed-counts : (this that : List ℕ) → is_live this ≡ false → counts this that ≡ false
unfolding counts
closed-counts this that dead = ap (λ b. b && nat_lt (mark this) 3 && (not (is_live that) || (nat_lt (mark that) 3 && (mark this == next (mark that))))) dead

closed-none : (first second : List ℕ) → is_live first ≡ false → is_live second ≡ false → cell_of first second ≡ None
unfolding cell_of
closed-none first second a b = rw (closed-counts first second a, closed-counts second first b) refl

-- what is free holds no cell
pub free-none : (x : List ℕ) (i : ℕ) → HasNoLiveCopy x i → cell_at x i ≡ None
unfolding cell_at
free-none x i f = closed-none (part (first_at i) 34 x) (part (second_at i) 34 x) f.first f.second

pub erased-none : (x : List ℕ) (j : ℕ) → twin_size (j + 1) ≤ length x → IsErased x j → cell_at x j ≡ None
erased-none x j room erased = free-none x j (erased-free x j room erased)

open-counts : (c that : List ℕ) → is_live that ≡ false → counts (0xa7 ∷ 0 ∷ c) that ≡ true
unfolding counts is_live
open-counts c that dead = ap (λ b. not b || (nat_lt (mark that) 3 && (0 == next (mark that)))) dead

open-cell : (first second c : List ℕ) → first ≡ 0xa7 ∷ 0 ∷ c → is_live second ≡ false → cell_of first second ≡ Some c
unfolding cell_of
open-cell first second c is dead = rw is (rw (open-counts c second dead) refl)

-- a live first copy beside one that isn't
pub cell-open : (x : List ℕ) (i : ℕ) (c : List ℕ) → part (first_at i) 34 x ≡ 0xa7 ∷ 0 ∷ c → is_live (part (second_at i) 34 x) ≡ false → cell_at x i ≡ Some c
unfolding cell_at
cell-open x i c is dead = open-cell (part (first_at i) 34 x) (part (second_at i) 34 x) c is dead

some-none : (o : Option (List ℕ)) → IsSome o → o ≡ None → ⊥
some-none o some none = false≢true (subst (λ (p : Option (List ℕ)). IsSome p) none some)

pub is-some : (o : Option (List ℕ)) (c : List ℕ) → o ≡ Some c → IsSome o
is-some o c e = subst (λ (p : Option (List ℕ)). IsSome p) (sym e) refl

-- ---- what the cells say

counts-most : (x : List ℕ) (n m : ℕ) → n < m → CountsFirst x n → CountsFirst x m → ⊥
counts-most x n m less a b =
    some-none (cell_at x n) (b.cells n less) (a.end (let m = b.most in omega arith) (let r = b.room in omega arith))

pub counts-once : (x : List ℕ) (n m : ℕ) → CountsFirst x n → CountsFirst x m → n ≡ m
counts-once x n m a b = elim (cases_lt n m) [
  | inl less ↦ absurd (counts-most x n m less a b)
  | inr from ↦ elim (cases_lt m n) [ inl more ↦ absurd (counts-most x m n more b a) | inr to ↦ omega arith ]
]

pub says-once : (x : List ℕ) (n m : ℕ) → SaysCells x n → SaysCells x m → n ≡ m
says-once x n m a b = counts-once x n m a.counts b.counts

-- what is erased at the end stays so, if the change is before it
pub ends-kept : (x y : List ℕ) (n lo k : ℕ) → SameOutside lo k x y → lo + k ≤ first_at n → EndsErased x n → EndsErased y n
ends-kept x y n lo k s before e =
    let long = s.lengths in
    let same = part-same (first_at n) 68 lo k x y s (inr before) in
    record {
      room = (let r = e.room in omega arith);
      erased = elim e.erased [ inl zeros ↦ inl (same ∙ zeros) | inr ones ↦ inr (same ∙ ones) ];
      later = λ j from few room. cell-apart x y j lo k s (inr (omega arith)) ∙ e.later j from few (omega arith);
    }

-- so many cells count, and what is after them is erased
pub counts-erased : (x : List ℕ) (n : ℕ) → n ≤ 1024 → ((j : ℕ) → j < n → IsSome (cell_at x j)) → EndsErased x n → CountsFirst x n
counts-erased x n few cells e = record {
  most = few;
  room = (let r = e.room in omega arith);
  cells = cells;
  end = λ _ room. erased-none x n room e.erased;
}

-- the number alone is another: the cells say the same
pub said-beside : (x y : List ℕ) (n : ℕ) → SameOutside 10 2 x y → HasHeadButCount x n → CountsFirst x n → EndsErased x n → SaysCells y n
said-beside x y n s head c e =
    let ends = ends-kept x y n 10 2 s (omega arith) e in
    record {
      head = but-count n x y (let r = c.room in omega arith) s head;
      counts = counts-erased y n c.most (λ j below. subst (λ (o : Option (List ℕ)). IsSome o) (sym (cell-apart x y j 10 2 s (inr (omega arith)))) (c.cells j below)) ends;
      sure = inr ends;
    }

-- a plan that is done is one that was cut within its last write, all of which was written
pub done-cut : (plan : Plan) (x : List ℕ) (at : ℕ) (new : List ℕ) → WritesAt plan.third at new
    → at + length new ≤ length (applied_write plan.second (applied_write plan.first x)) → CutWithin plan x (applied plan x)
done-cut plan x at new p room =
    let z : List ℕ = applied_write plan.second (applied_write plan.first x) in
    let is : applied plan x ≡ splice at new z = splice-at plan.third at new z p in
    let s : SameOutside at (length new) z (applied plan x) =
    subst (λ (w : List ℕ). SameOutside at (length new) z w) (sym is) (SameOutside-splice at new z room) in
    in_third
    (subst (λ n. SameOutside n plan.third.size z (applied plan x)) (sym p.place)
    (subst (λ n. SameOutside at n z (applied plan x)) (sym p.count) s))

-- ---- the number alone

module _ (n : ℕ) (x : List ℕ) (room : 32 ≤ length x) (plan : Plan) (p : PlansCount plan n) where
  none-first : applied_write plan.first x ≡ x
  none-first = splice-empty plan.first x (no_bytes plan.first p.first)

  none-second : applied_write plan.second (applied_write plan.first x) ≡ x
  none-second = splice-empty plan.second (applied_write plan.first x) (no_bytes plan.second p.second) ∙ none-first

  count-third : (y : List ℕ) → SameOutside plan.third.offset plan.third.size (applied_write plan.second (applied_write plan.first x)) y → SameOutside 10 2 x y
  count-third y s =
      subst (λ (z : List ℕ). SameOutside 10 2 z y) none-second
      (subst (λ k. SameOutside 10 k (applied_write plan.second (applied_write plan.first x)) y) (length-bytes_of 2 n)
      (at-place plan.third 10 (bytes_of 2 n) (applied_write plan.second (applied_write plan.first x)) y p.third s))

  -- the number is cut, or nothing
  pub count-same : (y : List ℕ) → CutWithin plan x y → SameOutside 10 2 x y
  count-same y cut = elim cut [
    | in_first s ↦ SameOutside-widen 10 0 10 2 x y (omega arith) (omega arith) (subst (λ (z : List ℕ). SameOutside 10 0 x z) (sym (same-all plan.first.offset x y (subst (λ k. SameOutside plan.first.offset k x y) (no_bytes plan.first p.first) s))) (SameOutside-refl 10 0 x))
    | in_second s ↦ SameOutside-widen 10 0 10 2 x y (omega arith) (omega arith) (subst (λ (z : List ℕ). SameOutside 10 0 x z) (sym (same-all plan.second.offset (applied_write plan.first x) y (subst (λ k. SameOutside plan.second.offset k (applied_write plan.first x) y) (no_bytes plan.second p.second) s) ∙ none-first)) (SameOutside-refl 10 0 x))
    | in_third s ↦ count-third y s
  ]

  pub count-cells : (y : List ℕ) (j : ℕ) → CutWithin plan x y → cell_at y j ≡ cell_at x j
  count-cells y j cut = cell-apart x y j 10 2 (count-same y cut) (inr (omega arith))

  pub count-done : CutWithin plan x (applied plan x)
  count-done =
      done-cut plan x 10 (bytes_of 2 n) p.third
      (let long : length (applied_write plan.second (applied_write plan.first x)) ≡ length x = ap length none-second in omega (arith, room, long, length-bytes_of 2 n))

  pub count-is : applied plan x ≡ with_number n x
  count-is = ap (applied_write plan.third) none-second ∙ splice-at plan.third 10 (bytes_of 2 n) x p.third

  pub count-head : HasHeadButCount x n → Head n (applied plan x)
  count-head h = subst (λ (y : List ℕ). Head n y) (sym count-is) h

-- ---- a cell more

module _ (n : ℕ) (c : List ℕ) (sized : length c ≡ 32) (x : List ℕ) (room : twin_size (n + 1) ≤ length x) (plan : Plan) (p : PlansGrowth plan n c) where
  many : length (0 ∷ c) ≡ 33
  many = ap suc sized

  -- the copy is written, and its gate
  abbrev made : List ℕ
  made = splice (first_at n) (0xa7 ∷ 0 ∷ c) x

  wide : length (0xa7 ∷ 0 ∷ c) ≡ 34
  wide = ap suc many

  made-same : SameOutside (first_at n) 34 x made
  made-same = subst (λ k. SameOutside (first_at n) k x made) wide (SameOutside-splice (first_at n) (0xa7 ∷ 0 ∷ c) x (omega (arith, wide)))

  both-is : applied_write plan.second (applied_write plan.first x) ≡ made
  both-is =
      ap (applied_write plan.second) (splice-at plan.first (first_at n + 1) (0 ∷ c) x p.first)
      ∙ (splice-at plan.second (first_at n) (0xa7 ∷ []) (splice (first_at n + 1) (0 ∷ c) x) p.second
      ∙ splice-gate 33 (first_at n) 0xa7 (0 ∷ c) x x many (omega arith) (SameOutside-refl (first_at n) 1 x))

  -- the number is cut
  cut-third : (y : List ℕ) → SameOutside plan.third.offset plan.third.size (applied_write plan.second (applied_write plan.first x)) y → SameOutside 10 2 made y
  cut-third y s =
      subst (λ (z : List ℕ). SameOutside 10 2 z y) both-is
      (subst (λ k. SameOutside 10 k (applied_write plan.second (applied_write plan.first x)) y) (length-bytes_of 2 (n + 1))
      (at-place plan.third 10 (bytes_of 2 (n + 1)) (applied_write plan.second (applied_write plan.first x)) y p.third s))

  first-same : SameOutside (first_at n) 34 x (applied_write plan.first x)
  first-same =
      subst (λ (z : List ℕ). SameOutside (first_at n) 34 x z) (sym (splice-at plan.first (first_at n + 1) (0 ∷ c) x p.first))
      (SameOutside-widen (first_at n + 1) (length (0 ∷ c)) (first_at n) 34 x (splice (first_at n + 1) (0 ∷ c) x) (omega arith) (omega (arith, many))
      (SameOutside-splice (first_at n + 1) (0 ∷ c) x (omega (arith, many))))

  cut-first : (y : List ℕ) → SameOutside plan.first.offset plan.first.size x y → SameOutside (first_at n) 34 x y
  cut-first y s = SameOutside-widen (first_at n + 1) (length (0 ∷ c)) (first_at n) 34 x y (omega arith) (omega (arith, many)) (at-place plan.first (first_at n + 1) (0 ∷ c) x y p.first s)

  cut-second : (y : List ℕ) → SameOutside plan.second.offset plan.second.size (applied_write plan.first x) y → SameOutside (first_at n) 34 x y
  cut-second y s =
      SameOutside-after (first_at n) 34 x (applied_write plan.first x) y first-same
      (SameOutside-widen (first_at n) 1 (first_at n) 34 (applied_write plan.first x) y (omega arith) (omega arith) (at-place plan.second (first_at n) (0xa7 ∷ []) (applied_write plan.first x) y p.second s))

  -- every other cell is as it was
  beside : (y : List ℕ) (j : ℕ) → SameOutside (first_at n) 34 x y → j ≢ n → cell_at y j ≡ cell_at x j
  beside y j s ne = cell-apart x y j (first_at n) 34 s (elim (cases_lt j n) [ inl below ↦ inl (omega arith) | inr from ↦ elim (cases_lt n j) [ inl above ↦ inr (omega arith) | inr to ↦ absurd (ne (omega arith)) ] ])

  pub growth-others : (y : List ℕ) (j : ℕ) → CutWithin plan x y → j ≢ n → cell_at y j ≡ cell_at x j
  growth-others y j cut ne = elim cut [
    | in_first s ↦ beside y j (cut-first y s) ne
    | in_second s ↦ beside y j (cut-second y s) ne
    | in_third s ↦ cell-apart made y j 10 2 (cut-third y s) (inr (omega arith)) ∙ beside made j made-same ne
  ]

  -- what it changes lies between the number of cells and the end of the new cell
  pub growth-same : (y : List ℕ) → CutWithin plan x y → SameOutside 10 (first_at n + 24) x y
  growth-same y cut = elim cut [
    | in_first s ↦ SameOutside-widen (first_at n) 34 10 (first_at n + 24) x y (omega arith) (omega arith) (cut-first y s)
    | in_second s ↦ SameOutside-widen (first_at n) 34 10 (first_at n + 24) x y (omega arith) (omega arith) (cut-second y s)
    | in_third s ↦ SameOutside-after 10 (first_at n + 24) x made y (SameOutside-widen (first_at n) 34 10 (first_at n + 24) x made (omega arith) (omega arith) made-same)
        (SameOutside-widen 10 2 10 (first_at n + 24) made y (omega arith) (omega arith) (cut-third y s))
  ]

  pub growth-length : (y : List ℕ) → CutWithin plan x y → length y ≡ length x
  growth-length y cut = elim cut [
    | in_first s ↦ (cut-first y s).lengths
    | in_second s ↦ (cut-second y s).lengths
    | in_third s ↦ (cut-third y s).lengths ∙ made-same.lengths
  ]

  pub growth-done : CutWithin plan x (applied plan x)
  growth-done =
      done-cut plan x 10 (bytes_of 2 (n + 1)) p.third
      (let long : length (applied_write plan.second (applied_write plan.first x)) ≡ length x = ap length both-is ∙ made-same.lengths in omega (arith, room, long, length-bytes_of 2 (n + 1)))

  growth-is : applied plan x ≡ with_number (n + 1) made
  growth-is = ap (applied_write plan.third) both-is ∙ splice-at plan.third 10 (bytes_of 2 (n + 1)) made p.third

  module _ (head : Head n x) (free : HasNoLiveCopy x n) where
    -- beside the first copy the second is as it was
    second-dead : (y : List ℕ) → SameOutside (first_at n) 34 x y → is_live (part (second_at n) 34 y) ≡ false
    second-dead y s = ap is_live (part-same (second_at n) 34 (first_at n) 34 x y s (inr (omega arith))) ∙ free.second

    made-cell : cell_at made n ≡ Some c
    made-cell = cell-open made n c (part-splice (first_at n) 34 (0xa7 ∷ 0 ∷ c) x (sym wide) (omega (arith, wide))) (second-dead made made-same)

    made-head : Head n made
    made-head = head-kept x made (first_at n) 34 n (omega arith) made-same head

    pub growth-head : Head (n + 1) (applied plan x)
    growth-head = subst (λ (y : List ℕ). Head (n + 1) y) (sym growth-is) (head-counted n (n + 1) made (let l = made-same.lengths in omega arith) made-head)

    pub growth-cell : cell_at (applied plan x) n ≡ Some c
    growth-cell =
        let s : SameOutside 10 2 made (with_number (n + 1) made) = subst (λ k. SameOutside 10 k made (with_number (n + 1) made)) (length-bytes_of 2 (n + 1)) (SameOutside-splice 10 (bytes_of 2 (n + 1)) made (let l = made-same.lengths in omega (arith, length-bytes_of 2 (n + 1)))) in
        ap (λ (y : List ℕ). cell_at y n) growth-is ∙ (cell-apart made (with_number (n + 1) made) n 10 2 s (inr (omega arith)) ∙ made-cell)

    -- ---- what a cut leaves

    closed : ClosesGate 33 (first_at n) (Some (firm x)) (Some (firm x))
    closed = closed-already 33 (first_at n) (Some (firm x)) (λ t told. ap (λ (o : Option Told). told_live o) (sym told) ∙ free.first) where
      told_live : Option Told → Bool
      told_live None = false
      told_live (Some t) = is_live (part (first_at n) 34 t.bytes)

    abbrev Left : List ℕ → Type 0
    Left y = Unfinished 33 (first_at n) (0xa7 ∷ 0 ∷ c) x y

    left-first : (y : List ℕ) → SameOutside plan.first.offset plan.first.size x y → Left y
    left-first y s =
        read-firm 33 (first_at n) (0xa7 ∷ 0 ∷ c) x y (filling 33 (first_at n) (0xa7 ∷ 0 ∷ c) _ _ _ closed
        (outside-firm (first_at n + 1) 33 x y (subst (λ k. SameOutside (first_at n + 1) k x y) many (at-place plan.first (first_at n + 1) (0 ∷ c) x y p.first s))))

    left-second : (y : List ℕ) → SameOutside plan.second.offset plan.second.size (applied_write plan.first x) y → Left y
    left-second y s =
        read-firm 33 (first_at n) (0xa7 ∷ 0 ∷ c) x y (opening 33 (first_at n) (0 ∷ c) many _ _ _ _ (λ t told. told_room t told) closed
        ((apply-done plan.first x).lasts (first_at n + 1) (0 ∷ c) (omega (arith, many)) p.first)
        (outside-firm (first_at n) 1 (applied_write plan.first x) y (at-place plan.second (first_at n) (0xa7 ∷ []) (applied_write plan.first x) y p.second s))) where
          told_room : (t : Told) → Some (firm x) ≡ Some t → first_at n + 34 ≤ length t.bytes
          told_room t told = (let e : firm x ≡ t = same_Some _ _ told in let l : length x ≡ length t.bytes = ap (λ (u : Told). length u.bytes) e in omega arith)

    module _ (few : n < 1024) (said : CountsFirst x n) (after : EndsErased x (n + 1)) where
      -- the old number of cells
      as-old : (y : List ℕ) → SameOutside (first_at n) 34 x y → is_live (part (first_at n) 34 y) ≡ false → SaysCells y n × HasNoLiveCopy y n
      as-old y s dead =
          let here : Head n y = head-kept x y (first_at n) 34 n (omega arith) s head in
          let long = s.lengths in
          let now : HasNoLiveCopy y n = record { first = dead; second = second-dead y s } in (
            record {
              head = head-counted n n y (omega arith) here;
              counts = record {
                most = omega arith;
                room = omega arith;
                cells = λ j below. subst (λ (o : Option (List ℕ)). IsSome o) (sym (beside y j s (λ e. omega arith))) (said.cells j below);
                end = λ _ _. free-none y n now;
              };
              sure = inl here;
            },
            now,
          )

      new-cells : (y : List ℕ) → SameOutside (first_at n) 34 x y → cell_at y n ≡ Some c → (j : ℕ) → j < n + 1 → IsSome (cell_at y j)
      new-cells y s new j below = elim (cases_lt j n) [
        | inl before ↦ subst (λ (o : Option (List ℕ)). IsSome o) (sym (beside y j s (λ e. omega arith))) (said.cells j before)
        | inr end ↦ (let e : n ≡ j = omega arith in subst (λ i. IsSome (cell_at y i)) e (is-some (cell_at y n) c new))
      ]

      new-ends : (y : List ℕ) → SameOutside (first_at n) 34 x y → EndsErased y (n + 1)
      new-ends y s = ends-kept x y (n + 1) (first_at n) 34 s (omega arith) after

      -- the new one
      as-new : (y : List ℕ) → SameOutside (first_at n) 34 x y → cell_at y n ≡ Some c → SaysCells y (n + 1)
      as-new y s new =
          let long = s.lengths in
          record {
            head = head-counted n (n + 1) y (omega arith) (head-kept x y (first_at n) 34 n (omega arith) s head);
            counts = counts-erased y (n + 1) (omega arith) (new-cells y s new) (new-ends y s);
            sure = inr (new-ends y s);
          }

      sorted : (y : List ℕ) → Left y → (SaysCells y n × HasNoLiveCopy y n) ⊎ (SaysCells y (n + 1) × (cell_at y n ≡ Some c))
      sorted y u = elim u.spare [
        | inl dead ↦ inl (as-old y u.same dead)
        | inr more ↦ elim more [
          | inl was ↦ inl (as-old y u.same (ap is_live was ∙ free.first))
          | inr new ↦ (let cell = cell-open y n c new (second-dead y u.same) in inr (as-new y u.same cell, cell))
        ]
      ]

      pub growth-cut : (y : List ℕ) → CutWithin plan x y → (SaysCells y n × HasNoLiveCopy y n) ⊎ (SaysCells y (n + 1) × (cell_at y n ≡ Some c))
      growth-cut y cut = elim cut [
        | in_first s ↦ sorted y (left-first y s)
        | in_second s ↦ sorted y (left-second y s)
        | in_third s ↦ (let m = as-new made made-same made-cell in
            let t = cut-third y s in
            inr (said-beside made y (n + 1) t m.head m.counts (new-ends made made-same), cell-apart made y n 10 2 t (inr (omega arith)) ∙ made-cell))
      ]

-- ---- a put

module _ (plan : Plan) (x : List ℕ) (i : ℕ) (c : List ℕ) (p : PlansPut plan x i c) where
  abbrev at : ℕ
  at = side_at i (other p.side)

  first-long : length (applied_write plan.first x) ≡ length x
  first-long =
      let b = side_bounds i (other p.side) in
      let r = p.room in
      elim (cases_Bool (is_live (copy x i (other p.side)))) [
        | inl on ↦ ap length (splice-at plan.first at (0 ∷ []) x (p.gated.closes on)) ∙ length-splice at (0 ∷ []) x (omega arith)
        | inr off ↦ ap length (splice-empty plan.first x (no_bytes plan.first (p.gated.closed off)))
      ]

  second-long : length (applied_write plan.second (applied_write plan.first x)) ≡ length x
  second-long =
      let b = side_bounds i (other p.side) in
      let r = p.room in
      let new : List ℕ = next (mark (copy x i p.side)) ∷ c in
      ap length (splice-at plan.second (at + 1) new (applied_write plan.first x) p.gated.fills)
      ∙ (length-splice (at + 1) new (applied_write plan.first x) (omega (arith, p.sized, first-long)) ∙ first-long)

  pub put-done : CutWithin plan x (applied plan x)
  put-done = done-cut plan x at (167 ∷ []) p.gated.opens (let b = side_bounds i (other p.side) in let r = p.room in omega (arith, second-long))

  pub put-same : (y : List ℕ) → CutWithin plan x y → SameOutside (first_at i) 68 x y
  put-same y cut =
      let b = side_bounds i (other p.side) in
      SameOutside-widen at 34 (first_at i) 68 x y (omega arith) (omega arith) (cut-unfinished plan x y i c p cut).same
