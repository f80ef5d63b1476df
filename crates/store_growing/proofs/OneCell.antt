-- A change of some bytes: which parts of a store, which cells and what of its header stay
use Rattle.std.proofs.Common.{◌≡◌, ◌⊎◌, ◌∙◌, ℕ, ◌+◌, ◌≤◌, List, length, take, drop, get_or, eqb, refl, sym, ap, subst, inl, inr, arith, rules}
use Rattle.std.proofs.Common.{Some, None, true, false, replicate}
use Rattle.std.proofs.lemmas.Bool.{cases_lt}
use Rattle.std.proofs.lemmas.List.{places, same_lists, ext_get_or, length-take, get_or-take, get_or-drop}
use borrow.Rule.Slice.PartMut.{put_mid}
use Rattle.basics.specs.Numbers.{bytes_of}
use Rattle.basics.proofs.CallerLemmas.{length-bytes_of}
use Rattle.cut_disk.specs.Images.{splice}
use Rattle.cut_disk.proofs.CallerLemmas.{length-splice, get_or-splice_before, get_or-splice_in, get_or-splice_behind}
use Rattle.cell_store.specs.declared.kinds.Kind.{Kind}
use Rattle.cell_store.specs.declared.kinds.Version.TheVariants.{One, Two}
use Rattle.cell_store.specs.Layout.{SameOutside, part, header, layout, twin_layout}
use Rattle.cell_store.specs.Store.{HasHeader}
use Rattle.cell_store.specs.Twin.{cell_at, cell_of, counts, is_live, live_copy, twin_size, first_at, second_at}
use Rattle.cell_store.proofs.CallerLemmas.{part-same, part-part, SameOutside-splice, SameOutside-refl}
use Rattle.freshness_routes.specs.declared.routes.Route.{Route}
use Rattle.freshness_store.specs.Bound.{bound_cell}
use Rattle.store_plan.specs.Growing.{HasHeadButCount, count_at, with_number}
use Rattle.store_growing.specs.StoreHeaders.{cells_counted}
use Rattle.store_growing.specs.RouteCells.{first_bound, HasSlot, HoldsRoute, AreErased, IsFree}
use Rattle.store_growing.specs.GrowingStores.{first_copy, with_cell}

-- ---- what is written over a place

-- a place lies before a change, or after it
abbrev pub Apart : ℕ → ℕ → ℕ → ℕ → Type 0
Apart place size at n = (place + size ≤ at) ⊎ (at + n ≤ place)

-- what is written over a place doesn't depend on what stood there
pub written_over : (at : ℕ) (new x y : List ℕ) → at + length new ≤ length x → SameOutside at (length new) x y → splice at new y ≡ splice at new x
written_over at new x y inside s =
    let long : length y ≡ length x = s.lengths in
    let fits : at + length new ≤ length y = omega (arith, inside, long) in
    ext_get_or 0 (splice at new y) (splice at new x) (length-splice at new y fits ∙ (long ∙ sym (length-splice at new x inside))) (λ k l. elim (cases_lt k at) [
      | inl before ↦ get_or-splice_before at new y k 0 fits before ∙ (s.below k before ∙ sym (get_or-splice_before at new x k 0 inside before))
      | inr from ↦ elim (cases_lt k (at + length new)) [
        | inl within ↦ get_or-splice_in at new y k 0 fits from within ∙ sym (get_or-splice_in at new x k 0 inside from within)
        | inr past ↦ get_or-splice_behind at new y k 0 fits past ∙ (s.above k past ∙ sym (get_or-splice_behind at new x k 0 inside past))
      ]
    ])

-- what stands at a place, written there, changes nothing
own_part : (at n : ℕ) (y : List ℕ) → at + n ≤ length y → splice at (part at n y) y ≡ y
unfolding splice
own_part at n y inside = same_lists _ _ (search (rules, places)) (λ k d h. grind (arith, places))

-- if the new bytes stand there and nothing else is changed, they were written
pub is_written : (at : ℕ) (new x y : List ℕ) → at + length new ≤ length x → SameOutside at (length new) x y → part at (length new) y ≡ new → y ≡ splice at new x
is_written at new x y inside s e =
    let long : length y ≡ length x = s.lengths in
    sym (own_part at (length new) y (omega (arith, inside, long))) ∙ (ap (λ (b : List ℕ). splice at b y) e ∙ written_over at new x y inside s)

-- ---- the header

pub take-splice : (at n : ℕ) (new x : List ℕ) → at + length new ≤ n → n ≤ length x → take n (splice at new x) ≡ splice at new (take n x)
unfolding splice
take-splice at n new x inside room = same_lists _ _ (search (rules, places)) (λ k d h. grind (arith, places))

-- a part of a list that is put there anew
put_is_splice : (at k : ℕ) (x new : List ℕ) → k ≡ length new → at + length new ≤ length x → put_mid at k x new ≡ splice at new x
unfolding splice
put_is_splice at k x new same inside = same_lists _ _ (search (rules, places)) (λ i d h. grind (arith, places))

-- the first 32 bytes with a number put into them are those of the whole list with it
pub head_with_number : (n : ℕ) (x first two : List ℕ) → 32 ≤ length x → first ≡ take 32 x → two ≡ bytes_of 2 n
    → put_mid 10 2 first two ≡ part 0 32 (with_number n x)
head_with_number n x first two room first_is two_is =
    let short : length two ≡ 2 = ap length two_is ∙ length-bytes_of 2 n in
    let long : length first ≡ 32 = ap length first_is ∙ (let l = length-take 32 x in omega (arith, l, room)) in
    put_is_splice 10 2 first two (sym short) (omega (arith, short, long))
    ∙ (ap (λ (b : List ℕ). splice 10 b first) two_is
    ∙ (ap (splice 10 (bytes_of 2 n)) first_is ∙ sym (take-splice 10 32 (bytes_of 2 n) x (omega (arith, length-bytes_of 2 n)) room)))

-- the same header, but for its number
pub head_same : (n : ℕ) (x y : List ℕ) → 32 ≤ length x → 32 ≤ length y → part 0 32 y ≡ part 0 32 x → HasHeadButCount x n → HasHeadButCount y n
head_same n x y room wide same head =
    take-splice 10 32 (bytes_of 2 n) y (omega (arith, length-bytes_of 2 n)) wide
    ∙ (ap (splice 10 (bytes_of 2 n)) same ∙ (sym (take-splice 10 32 (bytes_of 2 n) x (omega (arith, length-bytes_of 2 n)) room) ∙ head))

pub counted_same : (at n : ℕ) (x y : List ℕ) → 12 ≤ at → SameOutside at n x y → cells_counted y ≡ cells_counted x
counted_same at n x y behind s =
    let high : get_or y 10 0 ≡ get_or x 10 0 = s.below 10 (omega (arith, behind)) in
    let low : get_or y 11 0 ≡ get_or x 11 0 = s.below 11 (omega (arith, behind)) in
    omega (arith, high, low)

-- where a header has its number
number_in : (n : ℕ) → part 10 2 (header (twin_layout One) n) ≡ bytes_of 2 n
unfolding header bytes_of
number_in n = refl

-- the number that stands there, written there, changes nothing
pub number_there : (n : ℕ) (x : List ℕ) → 32 ≤ length x → HasHeader (twin_layout One) n x → with_number n x ≡ x
number_there n x room head =
    let two : length (bytes_of 2 n) ≡ 2 = length-bytes_of 2 n in
    let stands : part 10 2 x ≡ bytes_of 2 n =
    part-part 0 32 10 2 x (omega arith) (omega (arith, room)) ∙ (ap (part 10 2) head ∙ number_in n) in
    sym (is_written 10 (bytes_of 2 n) x x (omega (arith, two, room)) (SameOutside-refl 10 (length (bytes_of 2 n)) x)
    (ap (λ (k : ℕ). part 10 k x) two ∙ stands))

-- ---- cells

pub cell_same : (j at n : ℕ) (x y : List ℕ) → SameOutside at n x y → Apart (first_at j) 68 at n → cell_at y j ≡ cell_at x j
unfolding cell_at
cell_same j at n x y s apart =
    let first : part (first_at j) 34 y ≡ part (first_at j) 34 x =
    part-same (first_at j) 34 at n x y s (elim apart [ inl b ↦ inl (omega (arith, b)) | inr a ↦ inr (omega (arith, a)) ]) in
    let second : part (second_at j) 34 y ≡ part (second_at j) 34 x =
    part-same (second_at j) 34 at n x y s (elim apart [ inl b ↦ inl (omega (arith, b)) | inr a ↦ inr (omega (arith, a)) ]) in
    ap (λ (c : List ℕ). cell_of c (part (second_at j) 34 y)) first ∙ ap (λ (c : List ℕ). cell_of (part (first_at j) 34 x) c) second

pub held_same : (j at n : ℕ) (route : Route) (x y : List ℕ) → SameOutside at n x y → Apart (first_at j) 68 at n → HoldsRoute x j route → HoldsRoute y j route
held_same j at n route x y s apart held = (held.0, held.1, cell_same j at n x y s apart ∙ held.2, held.3)

pub slot_same : (j at n : ℕ) (x y : List ℕ) → SameOutside at n x y → Apart (first_at j) 68 at n → HasSlot x j → HasSlot y j
slot_same j at n x y s apart held = (held.0, held.1, cell_same j at n x y s apart ∙ held.2, held.3)

pub erased_same : (place size at n : ℕ) (x y : List ℕ) → SameOutside at n x y → Apart place size at n → AreErased place size x → AreErased place size y
erased_same place size at n x y s apart erased =
    let same : part place size y ≡ part place size x = part-same place size at n x y s apart in
    elim erased [ inl zeros ↦ inl (same ∙ zeros) | inr ones ↦ inr (same ∙ ones) ]

pub free_same : (j at n : ℕ) (x y : List ℕ) → 12 ≤ at → SameOutside at n x y → Apart (first_at j) 68 at n → IsFree x j → IsFree y j
free_same j at n x y behind s apart free = record {
  uncounted = let u = free.uncounted in omega (arith, counted_same at n x y behind s, u);
  closed = ap is_live (part-same (first_at j) 34 at n x y s (elim apart [ inl b ↦ inl (omega (arith, b)) | inr a ↦ inr (omega (arith, a)) ])) ∙ free.closed;
  erased = erased_same (second_at j) 34 at n x y s (elim apart [ inl b ↦ inl (omega (arith, b)) | inr a ↦ inr (omega (arith, a)) ]) free.erased;
}

-- ---- a cell that can be written holds nothing, and one that is written the first bound

zeros_closed : is_live (replicate 34 0) ≡ false
unfolding is_live
zeros_closed = refl

ones_closed : is_live (replicate 34 0xff) ≡ false
unfolding is_live
ones_closed = refl

pub erased_closed : (at : ℕ) (x : List ℕ) → AreErased at 34 x → is_live (part at 34 x) ≡ false
erased_closed at x erased = elim erased [ inl zeros ↦ ap is_live zeros ∙ zeros_closed | inr ones ↦ ap is_live ones ∙ ones_closed ]

-- whether a copy is live, by its first byte
pub gate_at : (at : ℕ) (x : List ℕ) → is_live (part at 34 x) ≡ eqb (get_or x at 0) 167
unfolding is_live
gate_at at x =
    let e : at + 0 ≡ at = omega arith in
    ap (λ (b : ℕ). eqb b 167) (get_or-take 34 (drop at x) 0 0 (omega arith) ∙ (get_or-drop at x 0 0 ∙ ap (λ (k : ℕ). get_or x k 0) e))

-- two copies that aren't live hold nothing
none_live : (first second : List ℕ) → is_live first ≡ false → is_live second ≡ false → cell_of first second ≡ None
unfolding cell_of counts
none_live first second p q = rw (p, q) refl

pub free_is_none : (j : ℕ) (x : List ℕ) → IsFree x j → cell_at x j ≡ None
unfolding cell_at
free_is_none j x free = none_live (part (first_at j) 34 x) (part (second_at j) 34 x) free.closed (erased_closed (second_at j) x free.erased)

pub free_isnt_held : (j : ℕ) (route : Route) (x : List ℕ) → IsFree x j → HoldsRoute x j route → ⊥
free_isnt_held j route x free held =
    let none : cell_at x j ≡ None = free_is_none j x free in
    let some : cell_at x j ≡ Some held.0 = held.2 in cc

copy_live : (c : List ℕ) → is_live (live_copy 0 c) ≡ true
unfolding is_live
copy_live c = refl

-- a whole copy beside one that isn't live
alone : (c second : List ℕ) → is_live second ≡ false → cell_of (live_copy 0 c) second ≡ Some c
unfolding cell_of counts
alone c second closed = rw (copy_live c, closed) refl

pub whole_holds : (j : ℕ) (c x : List ℕ) → part (first_at j) 34 x ≡ live_copy 0 c → is_live (part (second_at j) 34 x) ≡ false → cell_at x j ≡ Some c
unfolding cell_at
whole_holds j c x e closed =
    ap (λ (first : List ℕ). cell_of first (part (second_at j) 34 x)) e ∙ alone c (part (second_at j) 34 x) closed

-- ---- the cell of a route

pub bound_sized : (route : Route) → length (first_bound route) ≡ 32
unfolding bound_cell bytes_of
bound_sized route = refl

pub copy_sized : (route : Route) → length (first_copy route) ≡ 34
copy_sized route = omega (arith, bound_sized route)

pub with_cell_same : (cell : ℕ) (route : Route) (x : List ℕ) → twin_size (cell + 1) ≤ length x → SameOutside (first_at cell) 34 x (with_cell cell route x)
with_cell_same cell route x room =
    subst (λ (n : ℕ). SameOutside (first_at cell) n x (with_cell cell route x)) (copy_sized route)
    (SameOutside-splice (first_at cell) (first_copy route) x (omega (arith, room, copy_sized route)))

pub with_number_same : (n : ℕ) (x : List ℕ) → 32 ≤ length x → SameOutside 10 2 x (with_number n x)
with_number_same n x room =
    subst (λ (k : ℕ). SameOutside 10 k x (with_number n x)) (length-bytes_of 2 n)
    (SameOutside-splice count_at (bytes_of 2 n) x (omega (arith, room, length-bytes_of 2 n)))

-- a store of version 2 lies after all that changes
pub version_same : (kind : Kind) (n at size : ℕ) (x y : List ℕ) → at + size ≤ 32768 → SameOutside at size x y
    → HasHeader (layout kind Two) n y → HasHeader (layout kind Two) n x
version_same kind n at size x y low s head = sym (part-same 32768 32 at size x y s (inr (omega (arith, low)))) ∙ head
