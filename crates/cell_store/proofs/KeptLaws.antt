-- What a put makes of the bytes of a twin store that keep the cells in memory.
use Rattle.std.proofs.Common.{◌≡◌, ℕ, suc, ◌+◌, ◌<◌, ◌≤◌, ◌⊎◌, inl, inr, true, false, Some, List, [], length, drop, set, get_or, sym, ap, subst, ◌∙◌, arith, length-drop}
use Rattle.std.proofs.lemmas.List.{length-set, length-map, get_or-set_same, get_or-set_other, get_or-map}
use Rattle.std.proofs.lemmas.Bool.{cases_eq, cond-true, cond-false}
use Rattle.cut_disk.specs.Images.{splice}
use Rattle.cell_store.specs.declared.kinds.Version.{Version}
use Rattle.cell_store.specs.declared.copies.Side.{Side}
use Rattle.cell_store.specs.declared.copies.Side.TheVariants.{First, Second}
use Rattle.cell_store.specs.declared.copies.Held.{Held}
use Rattle.cell_store.specs.Layout.{SameOutside, part, base, from_base, header, twin_layout}
use Rattle.cell_store.specs.Twin.{twin_size, is_live, mark, payload, next, counts, cell_at, live_copy}
use Rattle.cell_store.specs.Copies.{other, side_at, copy, Keeps}
use Rattle.cell_store.specs.Writing.{Unfinished}
use Rattle.cell_store.specs.Kept.{KeepsAll, cells_of}
use Rattle.cell_store.specs.Store.{FewCells, HoldsCells, Stands, twin_put, PutsAs, Put}
use Rattle.cell_store.proofs.LayoutLaws.{part-same, part-drop, SameOutside-drop, SameOutside-splice, SameOutside-widen, splice-drop}
use Rattle.cell_store.proofs.TwinLaws.{counts-once, counting}
use Rattle.cell_store.proofs.CopiesLaws.{other-other, SameOutside-put, copy-put, counts-put, cell_at-kept, side_bounds, same_copy, cell_at-others, Keeps-others, cell_at-unfinished}

-- the copy that a put of this cell makes
abbrev pub put_copy : Held → List ℕ → List ℕ
put_copy h cell = live_copy (next h.mark) cell

abbrev pub put_at : ℕ → Held → ℕ
put_at i h = side_at i (other h.side)

-- the cell as it is held after a put
abbrev pub put_held : Held → List ℕ → Held
put_held h cell = record { payload = cell; mark = next h.mark; side = other h.side; spare_is_live = true }

blank : Held
blank = record { payload = []; mark = 0; side = First; spare_is_live = false }

-- what stands for these cells, by the bytes from the base on
pub record HoldsAll (version : Version) (store : List ℕ) (cells : List (List ℕ)) : Type 0 where
  pub few : FewCells (length cells)
  pub room : twin_size (length cells) ≤ length store
  pub head : part 0 32 store ≡ header (twin_layout version) (length cells)
  pub held : (i : ℕ) → i < length cells → cell_at store i ≡ Some (get_or cells i [])

pub stands-held : (version : Version) (x : List ℕ) (cells : List (List ℕ)) → HoldsAll version (from_base version x) cells → Stands (twin_layout version) x cells
unfolding HoldsCells
stands-held version x cells h = record {
  few = h.few;
  room = (let r = h.room in omega (arith, length-drop (base version) x));
  head = h.head;
  holds = h.held;
}

pub held-stands : (version : Version) (x : List ℕ) (cells : List (List ℕ)) → Stands (twin_layout version) x cells → HoldsAll version (from_base version x) cells
unfolding HoldsCells
held-stands version x cells s = record {
  few = s.few;
  room = (let r = s.room in omega (arith, length-drop (base version) x));
  head = s.head;
  held = s.holds;
}

-- bytes that keep the cells hold them
pub holds-kept : (version : Version) (store : List ℕ) (held : List Held) → FewCells (length held) → KeepsAll version store held → HoldsAll version store (cells_of held)
holds-kept version store held few k =
    let n : length (cells_of held) ≡ length held = length-map held (λ (h : Held). h.payload) in
    record {
      few = subst (λ m. FewCells m) (sym n) few;
      room = (let r = k.room in omega arith);
      head = subst (λ m. part 0 32 store ≡ header (twin_layout version) m) (sym n) k.head;
      held = λ i l. (let l' : i < length held = omega arith in cell_at-kept store i (get_or held i blank) (k.each i blank l') ∙ ap Some (sym (get_or-map (λ (h : Held). h.payload) held i blank [] l')));
    }

pub stands-kept : (version : Version) (x : List ℕ) (held : List Held) → FewCells (length held) → KeepsAll version (from_base version x) held → Stands (twin_layout version) x (cells_of held)
stands-kept version x held few k = stands-held version x (cells_of held) (holds-kept version (from_base version x) held few k)

module _ (version : Version) (x y : List ℕ) (held : List Held) (i : ℕ) (h : Held) (cell : List ℕ) where
  -- the header stands before all copies
  head-same : (n : ℕ) → SameOutside (put_at i h) 34 x y → part 0 32 x ≡ header (twin_layout version) n → part 0 32 y ≡ header (twin_layout version) n
  head-same n s e =
      let b = side_bounds i (other h.side) in
      part-same 0 32 (put_at i h) 34 x y s (inl (omega arith)) ∙ e

  -- what an unfinished put leaves holds the old list or the new one
  pub holds-unfinished : FewCells (length held) → KeepsAll version x held → i < length held → h ≡ get_or held i h → Unfinished 33 (put_at i h) (put_copy h cell) x y → HoldsAll version y (cells_of held) ⊎ HoldsAll version y (set (cells_of held) i cell)
  holds-unfinished few k below is u =
      let mine : Keeps x i h = subst (λ (g : Held). Keeps x i g) (sym is) (k.each i h below) in
      elim (cell_at-unfinished x y i h cell mine u) [
        | inl old ↦ inl (record {
          few = subst (λ m. FewCells m) (sym n) few;
          room = (let r = k.room in let e = u.same.lengths in omega (arith, n, n'));
          head = subst (λ m. part 0 32 y ≡ header (twin_layout version) m) (sym n) (head-same _ u.same k.head);
          held = λ j l. elim (cases_eq j i) [
            | inl e ↦ subst (λ m. cell_at y m ≡ Some (get_or (cells_of held) m [])) (sym e) (old ∙ ap Some (sym (get_or-map (λ (g : Held). g.payload) held i h [] below ∙ ap (λ (g : Held). g.payload) (sym is))))
            | inr ne ↦ cell_at-others x y i h u.same j ne ∙ kept j (omega (arith, l, n, n'))
          ];
        })
        | inr new ↦ inr (record {
          few = subst (λ m. FewCells m) (sym n') few;
          room = (let r = k.room in let e = u.same.lengths in omega (arith, n, n'));
          head = subst (λ m. part 0 32 y ≡ header (twin_layout version) m) (sym n') (head-same _ u.same k.head);
          held = λ j l. elim (cases_eq j i) [
            | inl e ↦ subst (λ m. cell_at y m ≡ Some (get_or (set (cells_of held) i cell) m [])) (sym e) (new ∙ ap Some (sym (get_or-set_same (cells_of held) i cell [] (omega (arith, n)))))
            | inr ne ↦ cell_at-others x y i h u.same j ne ∙ (kept j (omega (arith, l, n, n')) ∙ ap Some (sym (get_or-set_other (cells_of held) i j cell [] ne)))
          ];
        })
      ] where
        n : length (cells_of held) ≡ length held
        n = length-map held (λ (g : Held). g.payload)

        n' : length (set (cells_of held) i cell) ≡ length held
        n' = length-set (cells_of held) i cell ∙ n

        kept : (j : ℕ) → j < length held → cell_at x j ≡ Some (get_or (cells_of held) j [])
        kept j l = cell_at-kept x j (get_or held j h) (k.each j h l) ∙ ap Some (sym (get_or-map (λ (g : Held). g.payload) held j h [] l))

-- an unfinished put behind a gate, seen from the base on
pub unfinished-drop : (b n at : ℕ) (new x y : List ℕ) → b + at + suc n ≤ length x → Unfinished n (b + at) new x y → Unfinished n at new (drop b x) (drop b y)
unfinished-drop b n at new x y room u =
    let e : length y ≡ length x = u.same.lengths in
    let now : part at (suc n) (drop b y) ≡ part (b + at) (suc n) y = part-drop b at (suc n) y (omega arith) in
    let was : part at (suc n) (drop b x) ≡ part (b + at) (suc n) x = part-drop b at (suc n) x room in
    record {
      same = SameOutside-drop b at (suc n) x y u.same;
      spare = elim u.spare [
        | inl closed ↦ inl (rw now closed)
        | inr rest ↦ elim rest [ inl same ↦ inr (inl (now ∙ (same ∙ sym was))) | inr new ↦ inr (inr (now ∙ new)) ]
      ];
    }

-- which put it is, by the side that counts
pub twin_put-counts : (version : Version) (x : List ℕ) (i : ℕ) (cell : List ℕ) (side : Side) → counts (copy (from_base version x) i side) (copy (from_base version x) i (other side)) ≡ true
    → twin_put version x i cell ≡ Some (splice (base version + side_at i (other side)) (live_copy (next (mark (copy (from_base version x) i side))) cell) x)
unfolding twin_put
twin_put-counts version x i cell First c = cond-true _ _ _ c
twin_put-counts version x i cell Second c = cond-false _ _ _ (counts-once _ _ c) ∙ cond-true _ _ _ c

-- a finished put, in the bytes from the base on
module _ (version : Version) (x y : List ℕ) (held : List Held) (i : ℕ) (h : Held) (cell : List ℕ) (kept : KeepsAll version x held) (below : i < length held) (is : h ≡ get_or held i h) (sized : length cell ≡ 32) (done : y ≡ splice (put_at i h) (put_copy h cell) x) where
  pub mine : Keeps x i h
  mine = subst (λ (g : Held). Keeps x i g) (sym is) (kept.each i h below)

  room : twin_size (i + 1) ≤ length x
  room = let r = kept.room in omega (arith, below)

  done' : y ≡ splice (side_at i (other h.side)) (live_copy (next (mark (copy x i h.side))) cell) x
  done' = done ∙ ap (λ m. splice (side_at i (other h.side)) (live_copy (next m) cell) x) (sym mine.marked)

  same : SameOutside (put_at i h) 34 x y
  same = SameOutside-put x y i h.side cell sized room done'

  mine-put : Keeps y i (put_held h cell)
  mine-put =
      let new : copy y i (other h.side) ≡ put_copy h cell = copy-put x y i h.side cell sized room done' ∙ ap (λ m. live_copy (next m) cell) mine.marked in
      let old : copy y i h.side ≡ copy x i h.side = same_copy x y i h same in
      record {
        counting = rw (other-other h.side) (counts-put x y i h.side cell sized room done' mine.counting);
        bytes = ap payload new;
        marked = ap mark new;
        spare = rw (other-other h.side) (ap is_live old ∙ (counting _ _ mine.counting).live);
      }

  -- after it they keep the new cell, and all others
  pub KeepsAll-put : KeepsAll version y (set held i (put_held h cell))
  KeepsAll-put = record {
    room = (let r = kept.room in let e = same.lengths in omega (arith, length-set held i (put_held h cell)));
    head = subst (λ m. part 0 32 y ≡ header (twin_layout version) m) (sym (length-set held i (put_held h cell))) (let b = side_bounds i (other h.side) in part-same 0 32 (put_at i h) 34 x y same (inl (omega arith)) ∙ kept.head);
    each = λ j d l. (let l' : j < length held = omega (arith, l, length-set held i (put_held h cell)) in
        elim (cases_eq j i) [
          | inl e ↦ subst (λ m. Keeps y m (get_or (set held i (put_held h cell)) m d)) (sym e) (subst (λ (g : Held). Keeps y i g) (sym (get_or-set_same held i (put_held h cell) d below)) mine-put)
          | inr ne ↦ subst (λ (g : Held). Keeps y j g) (sym (get_or-set_other held i j (put_held h cell) d ne)) (Keeps-others x y i h same j (get_or held j d) ne (kept.each j d l'))
        ]);
  }

-- and in the whole list of bytes
module _ (version : Version) (x : List ℕ) (held : List Held) (i : ℕ) (h : Held) (cell : List ℕ) (kept : KeepsAll version (from_base version x) held) (below : i < length held) (is : h ≡ get_or held i h) (sized : length cell ≡ 32) where
  abbrev pub put_bytes : List ℕ
  put_bytes = splice (base version + put_at i h) (put_copy h cell) x

  pub put-fits : base version + put_at i h + 34 ≤ length x
  put-fits = let r = kept.room in let b = side_bounds i (other h.side) in omega (arith, below, length-drop (base version) x)

  long : length (put_copy h cell) ≡ 34
  long = ap (λ n. suc (suc n)) sized

  pub put-kept : Put (twin_layout version) x i cell put_bytes
  unfolding PutsAs
  put-kept =
      let m : Keeps (from_base version x) i h = subst (λ (g : Held). Keeps (from_base version x) i g) (sym is) (kept.each i h below) in
      twin_put-counts version x i cell h.side m.counting ∙ ap (λ n. Some (splice (base version + put_at i h) (live_copy (next n) cell) x)) m.marked

  pub put-keeps : KeepsAll version (from_base version put_bytes) (set held i (put_held h cell))
  put-keeps = KeepsAll-put version (from_base version x) (from_base version put_bytes) held i h cell kept below is sized
      (splice-drop (base version) (put_at i h) (put_copy h cell) x (let f = put-fits in omega (arith, long)))

  pub put-besides : SameOutside (base version) (twin_size (length held)) x put_bytes
  put-besides =
      let f = put-fits in
      let b = side_bounds i (other h.side) in
      let s : SameOutside (base version + put_at i h) (length (put_copy h cell)) x put_bytes = SameOutside-splice (base version + put_at i h) (put_copy h cell) x (omega (arith, long)) in
      SameOutside-widen (base version + put_at i h) (length (put_copy h cell)) (base version) (twin_size (length held)) x put_bytes (omega arith) (omega (arith, long, below)) s
