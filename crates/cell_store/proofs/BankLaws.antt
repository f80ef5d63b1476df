-- What a bank is that was written whole, and what a put that fills the bank that doesn't count leaves.
use Rattle.std.proofs.Common.{◌≡◌, ℕ, suc, ◌+◌, ◌*◌, ◌-◌, ◌<◌, ◌≤◌, ◌⊎◌, inl, inr, true, false, eqb, List, [], ◌∷◌, ◌++◌, length, drop, set, get_or, replicate, refl, sym, ap, subst, ◌∙◌, arith, rules, length-append}
use Rattle.std.specs.List.{flat_map}
use Rattle.std.proofs.lemmas.List.{ext_get_or, get_or-replicate, get_or-append_right, get_or-drop, length-replicate, length-set, get_or-set_same, get_or-set_other, places, drop-drop, drop-append-le, take-append-le}
use Rattle.std.proofs.lemmas.List.FromFn.{get_or-map-range_with_len, length-map-range_with_len}
use Rattle.std.proofs.lemmas.Bool.{cases_eq}
use Rattle.cell_store.specs.declared.copies.Side.{Side}
use Rattle.cell_store.specs.declared.copies.Side.TheVariants.{First, Second}
use Rattle.cell_store.specs.Layout.{part, SameOutside, header, log_layout}
use Rattle.cell_store.proofs.LayoutLaws.{part-same, length-part, get_or-part}
use Rattle.cell_store.specs.Twin.{is_live, mark, next, counts, live_copy}
use Rattle.cell_store.proofs.TwinLaws.{counts-next}
use Rattle.cell_store.specs.Copies.{other}
use Rattle.cell_store.proofs.CopiesLaws.{other-other}
use Rattle.cell_store.specs.Log.{log_size, bank_at, bank_head, BankCounts, bank_cell, bank_cells, place_at, place, bank_rest, live_bank}
use Rattle.cell_store.proofs.LogLaws.{bank_bounds, listed-same}
use Rattle.cell_store.specs.declared.kinds.Version.{Version}
use Rattle.cell_store.specs.LogKept.{HoldsInBank}
use Rattle.cell_store.proofs.FreshLaws.{Sized, length_pieces, piece_at}
use Rattle.cell_store.proofs.GateLaws.{is_live-part}

-- a part of a part
pub part-part : (at w j k : ℕ) (x : List ℕ) → j + k ≤ w → at + w ≤ length x → part (at + j) k x ≡ part j k (part at w x)
part-part at w j k x h room = ext_get_or 0 _ _ (length-part (at + j) k x (omega arith) ∙ sym (length-part j k (part at w x) (omega (arith, length-part at w x room)))) (λ i l.
    let small : i < k = omega (arith, length-part (at + j) k x (omega arith)) in
    rw (get_or-part (at + j) k x i small, get_or-part j k (part at w x) i small, get_or-part at w x (j + i) (omega arith))
    (let e : at + j + i ≡ at + (j + i) = omega arith in ap (λ m. get_or x m 0) e))

-- all cells, joined
pub length-cells : (cells : List (List ℕ)) → Sized cells → length (flat_map (λ c. c) cells) ≡ 32 * length cells
length-cells cells sized = length_pieces (λ c. c) 32 [] cells sized

pub length-bank_rest : (m : ℕ) (cells : List (List ℕ)) (n : ℕ) → Sized cells → length cells ≡ n → length (bank_rest m cells) ≡ 2241 + 32 * n
length-bank_rest m cells n sized e =
    let f = length-cells cells sized in
    let z : length (replicate {A = ℕ} 2240 0) ≡ 2240 = length-replicate {A = ℕ} 2240 0 in
    let a = length-append (flat_map (λ c. c) cells) (replicate {A = ℕ} 2240 0) in
    omega (arith, f, z, a, e)

pub Sized-set : (cells : List (List ℕ)) (i : ℕ) (c : List ℕ) → Sized cells → length c ≡ 32 → Sized (set cells i c)
Sized-set cells i c sized one j l =
    let l' : j < length cells = omega (arith, length-set cells i c) in
    elim (cases_eq j i) [
      | inl e ↦ subst (λ m. length (get_or (set cells i c) m []) ≡ 32) (sym e) (ap length (get_or-set_same cells i c [] (omega arith)) ∙ one)
      | inr ne ↦ ap length (get_or-set_other cells i j c [] ne) ∙ sized j l'
    ]

behind-cells : (f : List ℕ) (k : ℕ) → length f ≤ k → k < length f + 2240 → get_or (f ++ replicate 2240 0) k 0 ≡ 0
behind-cells f k from to =
    get_or-append_right f (replicate 2240 0) (length f) k 0 refl from ∙ get_or-replicate 2240 (k - length f) 0 0 (omega arith)

-- the parts of a bank that is written whole
module _ (n m : ℕ) (cells : List (List ℕ)) (sized : Sized cells) (count : length cells ≡ n) where
  joined : List ℕ
  joined = flat_map (λ c. c) cells

  live-head : part 0 2 (live_bank m cells) ≡ 0xa7 ∷ m ∷ []
  live-head = refl

  live-cell : (i : ℕ) → i < n → part (2 + 32 * i) 32 (live_bank m cells) ≡ get_or cells i []
  live-cell i l =
      let f = length-cells cells sized in
      let split : drop (2 + 32 * i) (live_bank m cells) ≡ drop (32 * i) (flat_map (λ c. c) cells) ++ replicate 2240 0 =
      sym (drop-drop (32 * i) 2 (live_bank m cells)) ∙ drop-append-le (32 * i) (flat_map (λ c. c) cells) (replicate 2240 0) (omega arith) in
      rw split (take-append-le 32 (drop (32 * i) (flat_map (λ c. c) cells)) (replicate 2240 0) (let d = length-part (32 * i) 32 (flat_map (λ c. c) cells) (omega arith) in search (rules, places)))
      ∙ piece_at (λ c. c) 32 [] cells i sized (omega arith)

  live-gate : (p : ℕ) → p < 64 → get_or (live_bank m cells) (2 + 32 * n + 35 * p) 0 ≡ 0
  live-gate p l =
      let f = length-cells cells sized in
      let split : get_or (live_bank m cells) (2 + (32 * n + 35 * p)) 0 ≡ get_or (flat_map (λ c. c) cells ++ replicate 2240 0) (32 * n + 35 * p) 0 = sym (get_or-drop 2 (live_bank m cells) (32 * n + 35 * p) 0) in
      (let e : 2 + 32 * n + 35 * p ≡ 2 + (32 * n + 35 * p) = omega arith in ap (λ k. get_or (live_bank m cells) k 0) e)
      ∙ (split ∙ behind-cells (flat_map (λ c. c) cells) (32 * n + 35 * p) (omega arith) (omega arith))

  -- where it stands in a store: it is a bank with these cells and no live place
  module _ (side : Side) (y : List ℕ) (room : log_size n ≤ length y) (is : part (bank_at n side) (suc (2241 + 32 * n)) y ≡ live_bank m cells) where
    inside : bank_at n side + suc (2241 + 32 * n) ≤ length y
    inside = let b = bank_bounds n side in omega arith

    piece : (j k : ℕ) → j + k ≤ suc (2241 + 32 * n) → part (bank_at n side + j) k y ≡ part j k (live_bank m cells)
    piece j k l = part-part (bank_at n side) (suc (2241 + 32 * n)) j k y l inside ∙ ap (part j k) is

    pub whole-head : bank_head n side y ≡ live_copy m []
    whole-head = (let e : bank_at n side ≡ bank_at n side + 0 = omega arith in ap (λ a. part a 2 y) e) ∙ (piece 0 2 (omega arith) ∙ live-head)

    whole-place : (p : ℕ) → p < 64 → is_live (place n side y p) ≡ false
    whole-place p l =
        let gate : get_or y (place_at n side p) 0 ≡ 0 =
        (let e : place_at n side p ≡ bank_at n side + (2 + 32 * n + 35 * p) = omega arith in ap (λ a. get_or y a 0) e)
        ∙ (sym (get_or-part (bank_at n side) (suc (2241 + 32 * n)) y (2 + 32 * n + 35 * p) (omega arith))
        ∙ (ap (λ (b : List ℕ). get_or b (2 + 32 * n + 35 * p) 0) is ∙ live-gate p l)) in
        is_live-part 34 (place_at n side p) y ∙ ap (λ b. eqb b 167) gate

    whole-cells : bank_cells n side y ≡ cells
    whole-cells = ext_get_or [] (bank_cells n side y) cells (length-map-range_with_len (bank_cell n side y) 0 n ∙ sym count) (λ i l.
        let small : i < n = omega (arith, length-map-range_with_len (bank_cell n side y) 0 n) in
        get_or-map-range_with_len (bank_cell n side y) 0 n i i [] small (omega arith)
        ∙ ((let e : bank_at n side + 2 + 32 * i ≡ bank_at n side + (2 + 32 * i) = omega arith in ap (λ a. part a 32 y) e)
        ∙ (piece (2 + 32 * i) 32 (omega arith) ∙ live-cell i small)))

    pub whole-holds : (version : Version) → part 0 32 y ≡ header (log_layout version) n → BankCounts n side y → HoldsInBank version n y cells side 0
    whole-holds version head counting = record {
      count = count;
      room = room;
      head = head;
      counting = counting;
      places = record {
        most = omega arith;
        live = λ p l. absurd (omega arith);
        below = λ p l. absurd (omega arith);
        free = λ p l k. whole-place p k;
      };
      list = whole-cells;
    }

-- the other bank has changed, and nothing else
module _ (n : ℕ) (side : Side) (x y : List ℕ) (s : SameOutside (bank_at n (other side)) (suc (2241 + 32 * n)) x y) where
  banks-apart : (that : Side) → (bank_at n that + 2242 + 32 * n ≤ bank_at n (other that)) ⊎ (bank_at n (other that) + suc (2241 + 32 * n) ≤ bank_at n that)
  banks-apart First = inl (omega arith)
  banks-apart Second = inr (omega arith)

  within : (j k : ℕ) → j + k ≤ 2242 + 32 * n → (bank_at n side + j + k ≤ bank_at n (other side)) ⊎ (bank_at n (other side) + suc (2241 + 32 * n) ≤ bank_at n side + j)
  within j k h = elim (banks-apart side) [ inl l ↦ inl (omega arith) | inr r ↦ inr (omega arith) ]

  pub same-header : part 0 32 y ≡ part 0 32 x
  same-header = let b = bank_bounds n (other side) in part-same 0 32 _ _ x y s (inl (omega arith))

  pub same-head : bank_head n side y ≡ bank_head n side x
  same-head = part-same (bank_at n side) 2 _ _ x y s (elim (banks-apart side) [ inl l ↦ inl (omega arith) | inr r ↦ inr r ])

  pub same-cells : (i : ℕ) → i < n → bank_cell n side y i ≡ bank_cell n side x i
  same-cells i l = part-same (bank_at n side + 2 + 32 * i) 32 _ _ x y s (elim (banks-apart side) [ inl a ↦ inl (omega arith) | inr r ↦ inr (omega arith) ])

  pub same-places : (p : ℕ) → p < 64 → place n side y p ≡ place n side x p
  same-places p l = part-same (place_at n side p) 35 _ _ x y s (elim (banks-apart side) [ inl a ↦ inl (omega arith) | inr r ↦ inr (omega arith) ])

module _ (version : Version) (n : ℕ) (x y : List ℕ) (cells : List (List ℕ)) (side : Side) (used : ℕ) (h : HoldsInBank version n x cells side used) (s : SameOutside (bank_at n (other side)) (suc (2241 + 32 * n)) x y) where
  room : log_size n ≤ length y
  room = let e = s.lengths in let r = h.room in omega arith

  -- the bank that counted still counts
  pub holds-still : counts (bank_head n side x) (bank_head n (other side) y) ≡ true → HoldsInBank version n y cells side used
  holds-still c = record {
    count = h.count;
    room = room;
    head = same-header n side x y s ∙ h.head;
    counting = rw (same-head n side x y s) c;
    places = record {
      most = h.places.most;
      live = λ p l. let m = h.places.most in rw (same-places n side x y s p (omega arith)) (h.places.live p l);
      below = λ p l. let m = h.places.most in rw (same-places n side x y s p (omega arith)) (h.places.below p l);
      free = λ p l m. rw (same-places n side x y s p m) (h.places.free p l m);
    };
    list = listed-same n side x y used (same-cells n side x y s) (λ p l. let m = h.places.most in same-places n side x y s p (omega arith)) ∙ h.list;
  }

  -- the other bank is a whole one now, with the next mark
  module _ (now : List (List ℕ)) (sized : Sized now) (as-many : length now ≡ n) (is : part (bank_at n (other side)) (suc (2241 + 32 * n)) y ≡ live_bank (next (mark (bank_head n side x))) now) where
    pub new-head : bank_head n (other side) y ≡ live_copy (next (mark (bank_head n side x))) []
    new-head = whole-head n (next (mark (bank_head n side x))) now sized as-many (other side) y room is

    new-counting : BankCounts n (other side) y
    new-counting = rw (other-other side, new-head, same-head n side x y s) (counts-next (bank_head n side x) (bank_head n (other side) x) [] h.counting)

    pub holds-refilled : HoldsInBank version n y now (other side) 0
    holds-refilled = whole-holds n (next (mark (bank_head n side x))) now sized as-many (other side) y room is version (same-header n side x y s ∙ h.head) new-counting
