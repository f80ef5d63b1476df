-- What moving a store to version 2 reads and leaves.
use Rattle.std.proofs.Common.{◌≡◌, ℕ, suc, ◌+◌, ◌-◌, ◌*◌, ◌<◌, ◌≤◌, ◌⊎◌, inl, inr, false, Option, Some, List, [], ◌∷◌, ◌++◌, length, drop, set, get_or, replicate, refl, sym, ap, subst, ◌∙◌, arith, length-drop, length-append}
use Rattle.std.proofs.lemmas.List.{ext_get_or, get_or-drop, length-set, length-map, map-set, length-replicate, get_or-set_same, get_or-set_other}
use Rattle.std.proofs.lemmas.Bool.{cases_eq, cases_lt}
use Rattle.std.proofs.lemmas.Option.{same_Some}
use Rattle.cut_disk.specs.State.{DiskState, Told}
use Rattle.cut_disk.specs.Images.{splice, firm, Image, Tears}
use Rattle.cut_disk.proofs.CallerLemmas.{image_of_firm, splice-beside, splice-apart, rose_after}
use Rattle.cut_disk.specs.Calls.{Grows}
use Rattle.cut_disk.specs.Lasting.{Lasts}
use Rattle.cell_store.specs.declared.kinds.Kind.{Kind}
use Rattle.cell_store.specs.declared.kinds.Kind.TheVariants.{Twin, Log}
use Rattle.cell_store.specs.declared.kinds.Version.{Version}
use Rattle.cell_store.specs.declared.kinds.Version.TheVariants.{One, Two}
use Rattle.cell_store.specs.declared.faults.Reread.{Reread}
use Rattle.cell_store.specs.declared.faults.Reread.TheVariants as reread
use Rattle.cell_store.specs.declared.copies.Side.{Side}
use Rattle.cell_store.specs.declared.copies.Side.TheVariants.{First}
use Rattle.cell_store.specs.declared.copies.Held.{Held}
use Rattle.cell_store.specs.declared.banks.Bank.{Bank}
use Rattle.cell_store.specs.Layout.{part, SameOutside, base, from_base, header, layout, twin_layout, log_layout}
use Rattle.cell_store.specs.Twin.{cell_at}
use Rattle.cell_store.specs.Copies.{other}
use Rattle.cell_store.specs.Log.{log_size, bank_at, bank_head, place_at, place, LogHolds}
use Rattle.cell_store.specs.Store.{FewCells, HoldsCells, HasHeader, Stands, FirstDamaged, Fresh, SameBesides, fresh_cells, fresh_store, store_size, size_from_base}
use Rattle.cell_store.specs.Kept.{cells_of}
use Rattle.cell_store.specs.LogKept.{KeepsLog}
use Rattle.cell_store.specs.Reading.{ReadOnly, ToldKeeps, Leaves, Finds}
use Rattle.cell_store.specs.ReadOrder.{reads, reads_to}
use Rattle.cell_store.specs.Writing.{LeavesOutside}
use Rattle.cell_store.specs.Formats.{FirmCells, Formats}
use Rattle.cell_store.specs.Moving.{CountsAs, StandsAsCounted, Moves, behind_header, HeaderLast, LeavesHeaderLast, KeepsCounted, LeavesBelow, Unmoved, OnlyDisk}
use Rattle.cell_store.proofs.LayoutLaws.{part-same, get_or-part, SameOutside-splice, SameOutside-after, SameOutside-widen, SameOutside-refl, SameOutside-drop}
use Rattle.cell_store.proofs.StoreLaws.{length-header, stands_once, stands-whole}
use Rattle.cell_store.proofs.ReadingLaws.{ReadSoFar, read-more, reads_join, reads_more}
use Rattle.cell_store.proofs.KeptLaws.{stands-kept}
use Rattle.cell_store.proofs.LogLaws.{bank_bounds, listed-same}
use Rattle.cell_store.proofs.LogKeptLaws.{log-stands}
use Rattle.cell_store.proofs.WritingLaws.{torn-outside}
use Rattle.cell_store.proofs.FreshLaws.{Sized, length-fresh_cells}
use Rattle.cell_store.proofs.FreshStands.{fresh_stands, length-fresh_log}

-- ---- reading

-- the header and the payloads of the first i of n cells are read
pub record PayloadsSoFar (version : Version) (n i : ℕ) (cells : List (List ℕ)) (start now : DiskState) : Type 0 where
  pub held : List Held
  pub long : length held ≡ n
  pub so : ReadSoFar version n i held start now
  pub same : (j : ℕ) → j < i → get_or cells j [] ≡ get_or (cells_of held) j []

blank : Held
blank = record { payload = []; mark = 0; side = First; spare_is_live = false }

pub payloads_none : (version : Version) (n : ℕ) (cells : List (List ℕ)) (start now : DiskState) → ReadOnly 1 start now → Grows start now → ((t : Told) → start.told ≡ Some t → HasHeader (twin_layout version) n t.bytes) → PayloadsSoFar version n 0 cells start now
payloads_none version n cells start now same grows head = record {
  held = replicate n blank;
  long = length-replicate n blank;
  so = record { as_before = same; grows = grows; head = head; each = λ t told j d l. absurd (omega arith) };
  same = λ j l. absurd (omega arith);
}

pub payloads_more : (version : Version) (n i : ℕ) (cells : List (List ℕ)) (start now new : DiskState) → PayloadsSoFar version n i cells start now → (h : Held) → ReadOnly 1 now new → ToldKeeps version now.told i h → i < n → length cells ≡ n → PayloadsSoFar version n (i + 1) (set cells i h.payload) start new
payloads_more version n i cells start now new p h one keeps below count = record {
  held = set p.held i h;
  long = length-set p.held i h ∙ p.long;
  so = read-more version n i p.held start now new p.so h one keeps (omega (arith, p.long));
  same = λ j l.
      (let e : cells_of (set p.held i h) ≡ set (cells_of p.held) i h.payload = map-set (λ (g : Held). g.payload) p.held i h in
      let m : length (cells_of p.held) ≡ n = length-map p.held (λ (g : Held). g.payload) ∙ p.long in
      elim (cases_eq j i) [
        | inl same ↦ subst (λ k. get_or (set cells i h.payload) k [] ≡ get_or (cells_of (set p.held i h)) k []) (sym same)
            (get_or-set_same cells i h.payload [] (omega (arith, count)) ∙ sym (ap (λ (c : List (List ℕ)). get_or c i []) e ∙ get_or-set_same (cells_of p.held) i h.payload [] (omega (arith, m))))
        | inr ne ↦ get_or-set_other cells i j h.payload [] ne ∙ (p.same j (omega arith) ∙ sym (ap (λ (c : List (List ℕ)). get_or c j []) e ∙ get_or-set_other (cells_of p.held) i j h.payload [] ne))
      ]);
}

pub payloads_stand : (version : Version) (n i : ℕ) (cells : List (List ℕ)) (start now : DiskState) → PayloadsSoFar version n i cells start now → n ≤ i → length cells ≡ n → FewCells n → (t : Told) → start.told ≡ Some t → store_size (twin_layout version) n ≤ length t.bytes → Stands (twin_layout version) t.bytes cells
payloads_stand version n i cells start now p all count few t told room =
    let m : length (cells_of p.held) ≡ length p.held = length-map p.held (λ (g : Held). g.payload) in
    let e : cells ≡ cells_of p.held = ext_get_or [] cells (cells_of p.held) (omega (arith, count, m, p.long)) (λ j l. p.same j (omega (arith, count))) in
    subst (λ (c : List (List ℕ)). Stands (twin_layout version) t.bytes c) (sym e)
    (stands-kept version t.bytes p.held (subst (λ k. FewCells k) (sym p.long) few) (record {
      room = omega (arith, length-drop (base version) t.bytes, p.long);
      head = subst (λ k. HasHeader (twin_layout version) k t.bytes) (sym p.long) (p.so.head t told);
      each = λ j d l. p.so.each t told j d (omega (arith, p.long));
    }))

pub kept_stands : (version : Version) (n : ℕ) (cells : List (List ℕ)) (bank : Bank) (x : List ℕ) → FewCells n → KeepsLog version n x cells bank → Stands (log_layout version) x cells
kept_stands version n cells bank x few k = log-stands version n x cells bank.side bank.used few k.holds

-- ---- writing

pub behind-wide : (kind : Kind) (cells : List (List ℕ)) → Sized cells → length (fresh_cells kind cells) ≡ behind_header kind (length cells)
behind-wide Twin cells sized = length-fresh_cells cells sized
behind-wide Log cells sized = length-fresh_log cells sized

pub behind-size : (kind : Kind) (n : ℕ) → size_from_base kind n ≡ 32 + behind_header kind n
behind-size Twin n = refl
behind-size Log n = omega arith

-- a header before what was written after it
over_rest : (b : ℕ) (h p x : List ℕ) → length h ≡ 32 → b + 32 + length p ≤ length x → splice b h (splice (b + 32) p x) ≡ splice b (h ++ p) x
over_rest b h p x head inside =
    sym (splice-apart b h (b + 32) p x (omega (arith, head)) inside)
    ∙ ((let behind : b + 32 ≡ b + length h = omega (arith, head) in ap (λ n. splice n p (splice b h x)) behind)
    ∙ splice-beside b h p x (omega (arith, head)))

module _ (kind : Kind) (version : Version) (cells : List (List ℕ)) (sized : Sized cells) (few : FewCells (length cells)) (a b c : Option Told) (room : (t : Told) → a ≡ Some t → store_size (layout kind version) (length cells) ≤ length t.bytes) where
  abbrev h : List ℕ
  h = header (layout kind version) (length cells)

  abbrev p : List ℕ
  p = fresh_cells kind cells

  size : size_from_base kind (length cells) ≡ 32 + behind_header kind (length cells)
  size = behind-size kind (length cells)

  wide : length (fresh_cells kind cells) ≡ behind_header kind (length cells)
  wide = behind-wide kind cells sized

  one : length (header (layout kind version) (length cells)) ≡ 32
  one = length-header (layout kind version) (length cells)

  fresh-is : (x : List ℕ) → store_size (layout kind version) (length cells) ≤ length x → splice (base version) (header (layout kind version) (length cells)) (splice (base version + 32) (fresh_cells kind cells) x) ≡ splice (base version) (fresh_store (layout kind version) cells) x
  fresh-is x enough = over_rest (base version) (header (layout kind version) (length cells)) (fresh_cells kind cells) x one (omega (arith, wide, size))

  pub last-fresh : FirmCells (layout kind version) cells a b → Lasts (base version) (header (layout kind version) (length cells)) b c → Formats (layout kind version) cells a c
  unfolding Fresh
  last-fresh between head t is = record {
    bytes = splice (base version) (fresh_store (layout kind version) cells) t.bytes;
    told = head (firm (splice (base version + 32) (fresh_cells kind cells) t.bytes)) (between t is) ∙ ap (λ bytes. Some (firm bytes)) (fresh-is t.bytes (room t is));
    fresh = refl;
    stands = fresh_stands (layout kind version) cells t.bytes _ few (room t is) sized refl;
  }

  pub last-behind : LeavesOutside (base version + 32) (behind_header kind (length cells)) a b → LeavesHeaderLast (layout kind version) cells a b
  last-behind leaves bytes was t told x image =
      let s = leaves bytes was t told x image in
      record { besides = SameOutside-widen (base version + 32) (behind_header kind (length cells)) (base version) (size_from_base kind (length cells)) bytes x (omega arith) (omega (arith, size)) s; within = inl s }

  same-front : (x y z : List ℕ) → SameOutside (base version) 32 x y → SameOutside (base version) 32 x z → SameOutside (base version) 32 y z
  same-front x y z s t = record { lengths = t.lengths ∙ sym s.lengths; below = λ k l. t.below k l ∙ sym (s.below k l); above = λ k l. t.above k l ∙ sym (s.above k l) }

  pub last-header : FirmCells (layout kind version) cells a b → Tears (base version) 32 b c → LeavesHeaderLast (layout kind version) cells a c
  unfolding Fresh
  last-header between torn bytes was t told x image =
      let r = room (firm bytes) was in
      let b2 = splice (base version + 32) p bytes in
      let w : SameOutside (base version + 32) (length p) bytes b2 = SameOutside-splice (base version + 32) p bytes (omega (arith, wide, size)) in
      let l2 : length b2 ≡ length bytes = w.lengths in
      let bt : b ≡ Some (firm b2) = between (firm bytes) was in
      let s : SameOutside (base version) 32 b2 x = torn-outside (base version) 32 b c (λ u is. let e : u ≡ firm b2 = same_Some _ _ (sym is ∙ bt) in let le : length u.bytes ≡ length b2 = ap (λ (v : Told). length v.bytes) e in omega (arith, le, l2, size)) torn b2 bt t told x image in
      let sh : SameOutside (base version) (length h) b2 (splice (base version) h b2) = SameOutside-splice (base version) h b2 (omega (arith, one, l2, size)) in
      let fresh : SameOutside (base version) 32 b2 (splice (base version) (fresh_store (layout kind version) cells) bytes) =
      subst (λ (y : List ℕ). SameOutside (base version) 32 b2 y) (fresh-is bytes r) (subst (λ m. SameOutside (base version) m b2 (splice (base version) h b2)) one sh) in
      record {
        besides = SameOutside-after (base version) (size_from_base kind (length cells)) bytes b2 x
            (SameOutside-widen (base version + 32) (length p) (base version) (size_from_base kind (length cells)) bytes b2 (omega arith) (omega (arith, wide, size)) w)
            (SameOutside-widen (base version) 32 (base version) (size_from_base kind (length cells)) b2 x (omega arith) (omega (arith, size)) s);
        within = inr (record { whole = splice (base version) (fresh_store (layout kind version) cells) bytes; fresh = refl; same = same-front b2 _ x fresh s });
      }

-- ---- what bytes stand for if others have changed

-- what is at 32768 and after it is nothing to a store of version 1 that ends before
module _ (n size : ℕ) (x y : List ℕ) (s : SameOutside 32768 size x y) where
  part-low : (at k : ℕ) → at + k ≤ 32768 → part at k y ≡ part at k x
  part-low at k low = part-same at k 32768 size x y s (inl low)

  log-low : (cells : List (List ℕ)) → log_size (length cells) ≤ 32768 → LogHolds x cells → LogHolds y cells
  log-low cells low h = record {
    side = h.side;
    counting = rw (head-low h.side, head-low (other h.side)) h.counting;
    used = h.used;
    places = record {
      most = h.places.most;
      live = λ p l. rw (place-low p (let m = h.places.most in omega arith)) (h.places.live p l);
      below = λ p l. rw (place-low p (let m = h.places.most in omega arith)) (h.places.below p l);
      free = λ p l m. rw (place-low p m) (h.places.free p l m);
    };
    list = listed-same (length cells) h.side x y h.used (λ i l. let b = bank_bounds (length cells) h.side in part-low (bank_at (length cells) h.side + 2 + 32 * i) 32 (omega arith)) (λ p l. place-low p (let m = h.places.most in omega arith)) ∙ h.list;
  } where
    head-low : (side : Side) → bank_head (length cells) side y ≡ bank_head (length cells) side x
    head-low side = let b = bank_bounds (length cells) side in part-low (bank_at (length cells) side) 2 (omega arith)

    place-low : (p : ℕ) → p < 64 → place (length cells) h.side y p ≡ place (length cells) h.side x p
    place-low p l = let b = bank_bounds (length cells) h.side in part-low (place_at (length cells) h.side p) 35 (omega arith)

  holds-low : (kind : Kind) (cells : List (List ℕ)) → size_from_base kind (length cells) ≤ 32768 → HoldsCells kind x cells → HoldsCells kind y cells
  unfolding HoldsCells cell_at
  holds-low Twin cells low h = λ i l. rw (part-low (32 + 68 * i) 34 (omega arith), part-low (66 + 68 * i) 34 (omega arith)) (h i l)
  holds-low Log cells low h = log-low cells low h

  pub stands-low : (kind : Kind) (cells : List (List ℕ)) → size_from_base kind (length cells) ≤ 32768 → Stands (layout kind One) x cells → Stands (layout kind One) y cells
  stands-low kind cells low h = record {
    few = h.few;
    room = (let r = h.room in let e = s.lengths in omega arith);
    head = part-low 0 32 (omega arith) ∙ h.head;
    holds = holds-low kind cells low h.holds;
  }

-- two lists are the same, or not
pub same_or_not : (xs ys : List ℕ) → (xs ≡ ys) ⊎ (xs ≡ ys → ⊥)
same_or_not [] [] = inl refl
same_or_not [] (y ∷ ys) = inr (λ e. let f : 0 ≡ suc (length ys) = ap length e in absurd (omega arith))
same_or_not (x ∷ xs) [] = inr (λ e. let f : suc (length xs) ≡ 0 = ap length e in absurd (omega arith))
same_or_not (x ∷ xs) (y ∷ ys) = elim (cases_eq x y) [
  | inl e ↦ elim (same_or_not xs ys) [
    | inl f ↦ inl (ap (λ k. k ∷ xs) e ∙ ap (λ (l : List ℕ). y ∷ l) f)
    | inr ne ↦ inr (λ e. ne (ap (drop 1) e))
  ]
  | inr ne ↦ inr (λ e. ne (ap (λ (l : List ℕ). get_or l 0 0) e))
]

-- ---- moving

-- if nothing has changed
pub kept-same : (kind : Kind) (n : ℕ) (old new : Option Told) → new ≡ old → KeepsCounted kind n old new
kept-same kind n old new same b cells is count stands t told x image =
    let e : t ≡ firm b = same_Some _ _ (sym told ∙ (same ∙ is)) in
    let f : x ≡ b = image_of_firm (subst (λ (u : Told). Image u x) e image) in
    subst (λ (y : List ℕ). StandsAsCounted kind cells y) (sym f) stands

pub below-same : (kind : Kind) (n : ℕ) (old new : Option Told) → new ≡ old → LeavesBelow kind n old new
below-same kind n old new same b is t told x image =
    let e : t ≡ firm b = same_Some _ _ (sym told ∙ (same ∙ is)) in
    let f : x ≡ b = image_of_firm (subst (λ (u : Told). Image u x) e image) in
    subst (λ (y : List ℕ). SameBesides (layout kind Two) n b y) (sym f) (SameOutside-refl _ _ b)

at-part : (x : List ℕ) (k : ℕ) → 32768 ≤ k → k < 32768 + 32 → get_or x k 0 ≡ get_or (part 0 32 (from_base Two x)) (k - 32768) 0
at-part x k from to =
    let e : 32768 + (0 + (k - 32768)) ≡ k = omega arith in
    sym (get_or-part 0 32 (from_base Two x) (k - 32768) (omega arith) ∙ (get_or-drop 32768 x (0 + (k - 32768)) 0 ∙ ap (λ m. get_or x m 0) e))

-- Where version 1 counts and stands for these cells.
module _ (kind : Kind) (cells : List (List ℕ)) (sized : Sized cells) (few : FewCells (length cells)) (low : size_from_base kind (length cells) ≤ 32768) (b : List ℕ) (room : store_size (layout kind Two) (length cells) ≤ length b) (not_two : HasHeader (layout kind Two) (length cells) b → ⊥) (one : Stands (layout kind One) b cells) where
  counts-one : (x : List ℕ) → SameBesides (layout kind Two) (length cells) b x → (HasHeader (layout kind Two) (length cells) x → ⊥) → StandsAsCounted kind cells x
  counts-one x s other_head = record { version = One; counting = other_head; stands = stands-low (length cells) (size_from_base kind (length cells)) b x s kind cells low one }

  -- an image at each moment before the end
  pub image-counted : (x : List ℕ) → HeaderLast (layout kind Two) cells b x → StandsAsCounted kind cells x
  image-counted x m = elim m.within [
    | inl behind ↦ counts-one x m.besides (λ head. not_two (sym (head-kept behind) ∙ head))
    | inr fresh ↦ elim (same_or_not (part 0 32 (from_base Two x)) (header (layout kind Two) (length cells))) [
      | inl head ↦ (let stands : Stands (layout kind Two) fresh.whole cells = fresh_stands (layout kind Two) cells b fresh.whole few room sized fresh.fresh in
          let e : x ≡ fresh.whole = whole-is x fresh.whole fresh.same (head ∙ sym stands.head) in
          record { version = Two; counting = head; stands = subst (λ (y : List ℕ). Stands (layout kind Two) y cells) (sym e) stands })
      | inr other_head ↦ counts-one x m.besides other_head
    ]
  ] where
    head-kept : SameOutside (32768 + 32) (behind_header kind (length cells)) b x → part 0 32 (from_base Two x) ≡ part 0 32 (from_base Two b)
    head-kept s = part-same 0 32 32 (behind_header kind (length cells)) (from_base Two b) (from_base Two x) (outside-drop s) (inl (omega arith)) where
      outside-drop : SameOutside (32768 + 32) (behind_header kind (length cells)) b x → SameOutside 32 (behind_header kind (length cells)) (drop 32768 b) (drop 32768 x)
      outside-drop o = SameOutside-drop 32768 32 (behind_header kind (length cells)) b x o

    whole-is : (x whole : List ℕ) → SameOutside 32768 32 whole x → part 0 32 (from_base Two x) ≡ part 0 32 (from_base Two whole) → x ≡ whole
    whole-is x whole s e = ext_get_or 0 x whole s.lengths (λ k l. elim (cases_lt k 32768) [
      | inl before ↦ s.below k before
      | inr from ↦ elim (cases_lt k (32768 + 32)) [
        | inl to ↦ at-part x k from to ∙ (ap (λ (l : List ℕ). get_or l (k - 32768) 0) e ∙ sym (at-part whole k from to))
        | inr behind ↦ s.above k behind
      ]
    ])

module _ (kind : Kind) (cells : List (List ℕ)) (n : ℕ) (count : length cells ≡ n) (sized : Sized cells) (few : FewCells n) (low : size_from_base kind n ≤ 32768) (old mid new : Option Told) (same : mid ≡ old) (room : (t : Told) → old ≡ Some t → store_size (layout kind Two) n ≤ length t.bytes) (not_two : (t : Told) → old ≡ Some t → HasHeader (layout kind Two) n t.bytes → ⊥) (one : (t : Told) → old ≡ Some t → Stands (layout kind One) t.bytes cells) where
  few-cells : FewCells (length cells)
  few-cells = subst (λ m. FewCells m) (sym count) few

  low-cells : size_from_base kind (length cells) ≤ 32768
  low-cells = rw count low

  room-cells : (t : Told) → old ≡ Some t → store_size (layout kind Two) (length cells) ≤ length t.bytes
  room-cells t is = rw count (room t is)

  no-two : (t : Told) → old ≡ Some t → HasHeader (layout kind Two) (length cells) t.bytes → ⊥
  no-two t is = rw count (not_two t is)

  by-version : (b : List ℕ) (list : List (List ℕ)) → old ≡ Some (firm b) → length list ≡ n → (version : Version) → CountsAs kind (length list) b version → Stands (layout kind version) b list → list ≡ cells
  by-version b list is m One counting stands = stands_once (layout kind One) b list cells stands (one (firm b) is)
  by-version b list is m Two counting stands = absurd (not_two (firm b) is (subst (λ k. HasHeader (layout kind Two) k b) m counting))

  -- writing failed
  pub torn-counted : LeavesHeaderLast (layout kind Two) cells mid new → KeepsCounted kind n old new
  torn-counted leaves b list is m stands t told x image =
      let e : list ≡ cells = by-version b list is m stands.version stands.counting stands.stands in
      subst (λ (c : List (List ℕ)). StandsAsCounted kind c x) (sym e)
      (image-counted kind cells sized few-cells low-cells b (room-cells (firm b) is) (no-two (firm b) is) (one (firm b) is) x (leaves b (same ∙ is) t told x image))

  pub torn-below : LeavesHeaderLast (layout kind Two) cells mid new → LeavesBelow kind n old new
  torn-below leaves b is t told x image = subst (λ m. SameBesides (layout kind Two) m b x) count (leaves b (same ∙ is) t told x image).besides

  -- all is written
  fresh-image : (f : Formats (layout kind Two) cells mid new) (b : List ℕ) (is : old ≡ Some (firm b)) (t : Told) → new ≡ Some t → (x : List ℕ) → Image t x → x ≡ (f (firm b) (same ∙ is)).bytes
  fresh-image f b is t told x image =
      let e : t ≡ firm (f (firm b) (same ∙ is)).bytes = same_Some _ _ (sym told ∙ (f (firm b) (same ∙ is)).told) in
      image_of_firm (subst (λ (u : Told). Image u x) e image)

  pub fresh-counted : Formats (layout kind Two) cells mid new → KeepsCounted kind n old new
  fresh-counted f b list is m stands t told x image =
      let e : list ≡ cells = by-version b list is m stands.version stands.counting stands.stands in
      let whole = f (firm b) (same ∙ is) in
      subst (λ (c : List (List ℕ)). StandsAsCounted kind c x) (sym e)
      (subst (λ (y : List ℕ). StandsAsCounted kind cells y) (sym (fresh-image f b is t told x image)) (record { version = Two; counting = whole.stands.head; stands = whole.stands }))

  pub fresh-below : Formats (layout kind Two) cells mid new → LeavesBelow kind n old new
  unfolding Fresh
  fresh-below f b is t told x image =
      let whole = f (firm b) (same ∙ is) in
      let long : length (fresh_store (layout kind Two) cells) ≡ size_from_base kind (length cells) = length-append (header (layout kind Two) (length cells)) (fresh_cells kind cells) ∙ omega (arith, length-header (layout kind Two) (length cells), behind-wide kind cells sized, behind-size kind (length cells)) in
      let s : SameOutside 32768 (length (fresh_store (layout kind Two) cells)) b (splice 32768 (fresh_store (layout kind Two) cells) b) = SameOutside-splice 32768 (fresh_store (layout kind Two) cells) b (let r = room-cells (firm b) is in omega (arith, long)) in
      subst (λ m. SameBesides (layout kind Two) m b x) count
      (subst (λ (y : List ℕ). SameBesides (layout kind Two) (length cells) b y) (sym (fresh-image f b is t told x image ∙ whole.fresh))
      (subst (λ k. SameOutside 32768 k b (splice 32768 (fresh_store (layout kind Two) cells) b)) long s))

  pub fresh-moves : Formats (layout kind Two) cells mid new → Moves kind cells old new
  fresh-moves f t is = record {
    before = record { version = One; counting = no-two t is; stands = one t is };
    after = f t (same ∙ is);
  }

-- version 2 was read
pub read-moves : (kind : Kind) (cells : List (List ℕ)) (old new : Option Told) → new ≡ old → ((t : Told) → old ≡ Some t → Stands (layout kind Two) t.bytes cells) → Moves kind cells old new
read-moves kind cells old new same stands t is = record {
  before = record { version = Two; counting = (stands t is).head; stands = stands t is };
  after = same ∙ is;
}

-- the header of version 2 stands, and that store is damaged
pub damaged-unmoved : (kind : Kind) (n : ℕ) (a b : DiskState) (i : ℕ) (fault : Reread) → fault ≡ reread.Damaged i → Leaves (reads kind n) (reads_to kind n) a b fault → Finds (layout kind Two) n a.told fault → Unmoved kind n a b (reread.Damaged i)
damaged-unmoved kind n a b i fault is leaves finds =
    let l : Leaves (reads kind n) (reads_to kind n) a b (reread.Damaged i) = subst (λ (f : Reread). Leaves (reads kind n) (reads_to kind n) a b f) is leaves in
    let f : Finds (layout kind Two) n a.told (reread.Damaged i) = subst (λ (f : Reread). Finds (layout kind Two) n a.told f) is finds in (
      reads_more (1 + reads_to kind n i) (omega arith) l,
      λ t told. let r = f t told in record { version = Two; counting = r.0; head = r.0; damaged = r.1 },
    )

-- the header of version 2 was read, and isn't there
module _ (kind : Kind) (n : ℕ) (a m : DiskState) (first : Reread) (is : first ≡ reread.NotFormatted) (leaves : Leaves (reads kind n) (reads_to kind n) a m first) (finds : Finds (layout kind Two) n a.told first) where
  pub one-read : ReadOnly 1 a m
  one-read =
      let l : Leaves (reads kind n) (reads_to kind n) a m reread.NotFormatted = subst (λ (f : Reread). Leaves (reads kind n) (reads_to kind n) a m f) is leaves in
      reads_more 1 (omega arith) l

  pub not-two : (t : Told) → a.told ≡ Some t → HasHeader (layout kind Two) n t.bytes → ⊥
  not-two = subst (λ (f : Reread). Finds (layout kind Two) n a.told f) is finds

  pub second-unmoved : (b : DiskState) (fault : Reread) → Leaves (reads kind n) (reads_to kind n) m b fault → Finds (layout kind One) n m.told fault → Unmoved kind n a b fault
  second-unmoved b reread.DiskFailed l f = rose_after a.faults m.faults b.faults (let e = one-read.faults in omega arith) l.rose
  second-unmoved b reread.NotFormatted l f = (
    reads_more 2 (omega arith) (reads_join one-read l),
    λ t told. (f t (one-read.told ∙ told), not-two t told),
  )
  second-unmoved b (reread.Damaged i) l f = (
    reads_more (1 + reads_to kind n i) (omega arith) (reads_join one-read l),
    λ t told. let r = f t (one-read.told ∙ told) in record { version = One; counting = not-two t told; head = r.0; damaged = r.1 },
  )

-- bytes that stand in the version that counts are refused for no other cause than the disk
counted-whole : (kind : Kind) (n i : ℕ) (b : List ℕ) (cells : List (List ℕ)) → length cells ≡ n → (v w : Version) → CountsAs kind (length cells) b v → Stands (layout kind v) b cells → CountsAs kind n b w → FirstDamaged (layout kind w) b n i → ⊥
counted-whole kind n i b cells m One One c s d f = stands-whole (layout kind One) b cells n i s m f
counted-whole kind n i b cells m One Two c s d f = c (subst (λ k. HasHeader (layout kind Two) k b) (sym m) d)
counted-whole kind n i b cells m Two One c s d f = d (subst (λ k. HasHeader (layout kind Two) k b) m c)
counted-whole kind n i b cells m Two Two c s d f = stands-whole (layout kind Two) b cells n i s m f

counted-head : (kind : Kind) (n : ℕ) (b : List ℕ) (cells : List (List ℕ)) → length cells ≡ n → (v : Version) → Stands (layout kind v) b cells → (HasHeader (layout kind One) n b → ⊥) × (HasHeader (layout kind Two) n b → ⊥) → ⊥
counted-head kind n b cells m One s none = none.0 (subst (λ k. HasHeader (layout kind One) k b) m s.head)
counted-head kind n b cells m Two s none = none.1 (subst (λ k. HasHeader (layout kind Two) k b) m s.head)

pub only-disk : (kind : Kind) (n : ℕ) (a b : DiskState) (fault : Reread) → Unmoved kind n a b fault → OnlyDisk kind n a.told fault
only-disk kind n a b reread.DiskFailed u bytes cells is m s = refl
only-disk kind n a b reread.NotFormatted u bytes cells is m s = absurd (counted-head kind n bytes cells m s.version s.stands (u.1 (firm bytes) is))
only-disk kind n a b (reread.Damaged i) u bytes cells is m s =
    let d = u.1 (firm bytes) is in
    absurd (counted-whole kind n i bytes cells m s.version d.version s.counting s.stands d.counting d.damaged)
