-- What the writes of a plan make of bytes.
use Rattle.std.proofs.Common.{◌≡◌, ◌≢◌, ℕ, suc, ◌+◌, ◌<◌, ◌≤◌, ◌⊎◌, inl, inr, Bool, Some, List, [], ◌∷◌, ◌++◌, length, take, drop, set, get_or, refl, sym, ap, subst, ◌∙◌, arith, rules}
use Rattle.std.proofs.lemmas.List.{places, same_lists, take-append-drop, append-nil, length-set, get_or-set_same, get_or-set_other}
use Rattle.std.proofs.lemmas.Bool.{cases_Bool, cases_eq}
use borrow.Rule.Slice.PartMut.{put_mid}
use Rattle.std.proofs.Math.Nat.{zero-add, add-zero}
use Rattle.cut_disk.specs.Images.{splice}
use Rattle.cell_store.specs.declared.kinds.Version.TheVariants.{One}
use Rattle.cell_store.specs.declared.copies.Held.{Held}
use Rattle.cell_store.specs.Layout.{SameOutside, part, header, twin_layout}
use Rattle.cell_store.specs.Twin.{is_live, mark, payload, next, cell_at, live_copy}
use Rattle.cell_store.specs.Copies.{other, side_at, copy, Keeps}
use Rattle.cell_store.specs.Writing.{Unfinished}
use Rattle.cell_store.specs.Store.{FewCells, Stands, PutsAs, Put}
use Rattle.cell_store.proofs.CallerLemmas.{part-same, SameOutside-splice, SameOutside-refl, side_bounds, SameOutside-put, cell_at-put, cell_at-kept}
use Rattle.cell_store.proofs.CallerLemmas.{cell_at-others, cell_at-unfinished, held-stands, stands-held, twin_put-counts, splice-gate, put_stands}
use Rattle.store_plan.specs.declared.planning.Write.{Write}
use Rattle.store_plan.specs.declared.planning.Plan.{Plan}
use Rattle.store_plan.specs.Plans.{WritesAt, Gated, PlansPut, bytes_written, applied, no_write}

-- a write of nothing
pub splice-none : (at : ℕ) (x : List ℕ) → splice at [] x ≡ x
unfolding splice
splice-none at x =
    ap (λ (front : List ℕ). front ++ drop (at + 0) x) (append-nil (take at x))
    ∙ (ap (λ n. take at x ++ drop n x) (add-zero at) ∙ take-append-drop at x)

-- what a copy into a part leaves
pub put_mid-splice : (at k : ℕ) (x new : List ℕ) → k ≡ length new → at + length new ≤ length x → put_mid at k x new ≡ splice at new x
unfolding splice
put_mid-splice at k x new same inside = same_lists _ _ (search (rules, places)) (λ i d h. grind (arith, places))

-- if a plan writes, the write is the splice
pub splice-at : (w : Write) (at : ℕ) (new x : List ℕ) → WritesAt w at new → splice w.offset (bytes_written w) x ≡ splice at new x
splice-at w at new x p = ap (λ n. splice n (bytes_written w) x) p.place ∙ ap (λ (b : List ℕ). splice at b x) p.is

pub splice-empty : (w : Write) (x : List ℕ) → w.size ≡ 0 → splice w.offset (bytes_written w) x ≡ x
splice-empty w x e = ap (λ n. splice w.offset (take n w.bytes) x) e ∙ splice-none w.offset x

pub no_bytes : (w : Write) → w ≡ no_write → w.size ≡ 0
no_bytes w e = ap (λ (u : Write). u.size) e

-- n bytes behind a gate, in three steps
gated-applied : (plan : Plan) (at : ℕ) (live : Bool) (rest x : List ℕ) → Gated plan at live rest → at + suc (length rest) ≤ length x → applied plan x ≡ splice at (167 ∷ rest) x
gated-applied plan at live rest x gated inside =
    splice-at plan.third at (167 ∷ []) (splice plan.second.offset (bytes_written plan.second) y) gated.opens
    ∙ (ap (splice at (167 ∷ [])) (splice-at plan.second (at + 1) rest y gated.fills)
    ∙ splice-gate (length rest) at 167 rest x y refl inside same) where
      y : List ℕ
      y = splice plan.first.offset (bytes_written plan.first) x

      same : SameOutside at 1 x (splice plan.first.offset (bytes_written plan.first) x)
      same = elim (cases_Bool live) [
        | inl opened ↦ subst (λ (z : List ℕ). SameOutside at 1 x z) (sym (splice-at plan.first at (0 ∷ []) x (gated.closes opened))) (SameOutside-splice at (0 ∷ []) x (omega arith))
        | inr closed ↦ subst (λ (z : List ℕ). SameOutside at 1 x z) (sym (splice-empty plan.first x (no_bytes plan.first (gated.closed closed)))) (SameOutside-refl at 1 x)
      ]

module _ (plan : Plan) (x : List ℕ) (i : ℕ) (c : List ℕ) (p : PlansPut plan x i c) where
  -- where the new copy stands, and what it is
  abbrev pub new_at : ℕ
  new_at = side_at i (other p.side)

  abbrev pub behind : List ℕ
  behind = next (mark (copy x i p.side)) ∷ c

  pub long : length behind ≡ 33
  long = ap suc p.sized

  pub inside : new_at + 34 ≤ length x
  inside = let b = side_bounds i (other p.side) in let r = p.room in omega arith

  pub applied-plan : applied plan x ≡ splice new_at (167 ∷ behind) x
  applied-plan = gated-applied plan new_at (is_live (copy x i (other p.side))) behind x p.gated (let l = long in let n = inside in omega arith)

  pub spliced-put : Put (twin_layout One) x i c (splice new_at (167 ∷ behind) x)
  unfolding PutsAs
  spliced-put = twin_put-counts One x i c p.side p.counting ∙ ap (λ n. Some (splice n (167 ∷ behind) x)) (zero-add new_at)

  pub applied-put : Put (twin_layout One) x i c (applied plan x)
  applied-put = subst (λ (y : List ℕ). Put (twin_layout One) x i c y) (sym applied-plan) spliced-put

  pub applied-stands : (cells : List (List ℕ)) → Stands (twin_layout One) x cells → i < length cells → Stands (twin_layout One) (applied plan x) (set cells i c)
  applied-stands cells stands below = put_stands (twin_layout One) x (applied plan x) cells i c stands below p.sized applied-put

  -- the copy that counts, as memory holds it
  abbrev pub counted : Held
  counted = record { payload = payload (copy x i p.side); mark = mark (copy x i p.side); side = p.side; spare_is_live = is_live (copy x i (other p.side)) }

  pub keeps : Keeps x i counted
  keeps = record { counting = p.counting; bytes = refl; marked = refl; spare = refl }

  -- the cell then, and every other
  done : applied plan x ≡ splice new_at (live_copy (next (mark (copy x i p.side))) c) x
  done = applied-plan

  pub applied-cell : cell_at (applied plan x) i ≡ Some c
  applied-cell = cell_at-put x (applied plan x) i p.side c p.sized p.room done p.counting

  pub applied-others : (j : ℕ) → j ≢ i → cell_at (applied plan x) j ≡ cell_at x j
  applied-others j ne = cell_at-others x (applied plan x) i counted (SameOutside-put x (applied plan x) i p.side c p.sized p.room done) j ne

  pub applied-head : part 0 32 (applied plan x) ≡ part 0 32 x
  applied-head =
      let b = side_bounds i (other p.side) in
      part-same 0 32 new_at 34 x (applied plan x) (SameOutside-put x (applied plan x) i p.side c p.sized p.room done) (inl (omega arith))

  pub applied-length : length (applied plan x) ≡ length x
  applied-length = (SameOutside-put x (applied plan x) i p.side c p.sized p.room done).lengths

  -- an unfinished put leaves the old list or the new one
  pub unfinished-stands : (y : List ℕ) (cells : List (List ℕ)) → Stands (twin_layout One) x cells → i < length cells → Unfinished 33 new_at (167 ∷ behind) x y → Stands (twin_layout One) y cells ⊎ Stands (twin_layout One) y (set cells i c)
  unfinished-stands y cells stands below u =
      let holds = held-stands One x cells stands in
      let n : length (set cells i c) ≡ length cells = length-set cells i c in
      let e = u.same.lengths in
      let r = holds.room in
      let b = side_bounds i (other p.side) in
      let head : part 0 32 y ≡ header (twin_layout One) (length cells) = part-same 0 32 new_at 34 x y u.same (inl (omega arith)) ∙ holds.head in
      let was : Some (payload (copy x i p.side)) ≡ Some (get_or cells i []) = sym (cell_at-kept x i counted keeps) ∙ holds.held i below in
      elim (cell_at-unfinished x y i counted c keeps u) [
        | inl old ↦ inl (stands-held One y cells (record {
          few = holds.few;
          room = omega arith;
          head = head;
          held = λ j l. elim (cases_eq j i) [
            | inl j-is ↦ subst (λ m. cell_at y m ≡ Some (get_or cells m [])) (sym j-is) (old ∙ was)
            | inr ne ↦ cell_at-others x y i counted u.same j ne ∙ holds.held j l
          ];
        }))
        | inr new ↦ inr (stands-held One y (set cells i c) (record {
          few = subst (λ m. FewCells m) (sym n) holds.few;
          room = omega arith;
          head = subst (λ m. part 0 32 y ≡ header (twin_layout One) m) (sym n) head;
          held = λ j l. elim (cases_eq j i) [
            | inl j-is ↦ subst (λ m. cell_at y m ≡ Some (get_or (set cells i c) m [])) (sym j-is) (new ∙ ap Some (sym (get_or-set_same cells i c [] below)))
            | inr ne ↦ cell_at-others x y i counted u.same j ne ∙ (holds.held j (omega arith) ∙ ap Some (sym (get_or-set_other cells i j c [] ne)))
          ];
        }))
      ]
