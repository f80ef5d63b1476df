-- A finished put makes the bytes stand for the list with the new cell in its place.
use Rattle.std.proofs.Common.{◌≡◌, ℕ, suc, ◌+◌, ◌<◌, ◌≤◌, inl, inr, true, false, Some, List, [], length, set, get_or, sym, ap, subst, ◌∙◌, arith, length-drop}
use Rattle.std.proofs.lemmas.List.{length-set, get_or-set_same, get_or-set_other}
use Rattle.std.proofs.lemmas.Bool.{cases_eq, cases_Bool, cond-true, cond-false}
use Rattle.std.proofs.lemmas.Option.{same_Some, none-some}
use Rattle.cut_disk.specs.Images.{splice}
use Rattle.cell_store.specs.declared.kinds.Kind.{Kind}
use Rattle.cell_store.specs.declared.kinds.Kind.TheVariants.{Twin, Log}
use Rattle.cell_store.specs.declared.kinds.Version.{Version}
use Rattle.cell_store.specs.declared.kinds.Layout.{Layout}
use Rattle.cell_store.specs.declared.copies.Side.{Side}
use Rattle.cell_store.specs.declared.copies.Side.TheVariants.{First, Second}
use Rattle.cell_store.specs.declared.copies.Held.{Held}
use Rattle.cell_store.specs.Layout.{part, base, from_base, header, twin_layout}
use Rattle.cell_store.specs.Twin.{twin_size, mark, next, counts, cell_at, live_copy}
use Rattle.cell_store.specs.Copies.{other, side_at, copy}
use Rattle.cell_store.specs.Store.{FewCells, Stands, twin_put, PutsAs, Put}
use Rattle.cell_store.proofs.LayoutLaws.{part-same, splice-drop}
use Rattle.cell_store.proofs.CopiesLaws.{side_bounds, SameOutside-put, cell_at-put, cell_at-others}
use Rattle.cell_store.proofs.KeptLaws.{HoldsAll, stands-held, held-stands}
use Rattle.cell_store.proofs.LogPutLaws.{log_put-stands}

-- by the side that counts, in the bytes from the base on
module _ (version : Version) (x y : List ℕ) (cells : List (List ℕ)) (i : ℕ) (c : List ℕ) (holds : HoldsAll version x cells) (below : i < length cells) (sized : length c ≡ 32) where
  on-side : (side : Side) → counts (copy x i side) (copy x i (other side)) ≡ true → y ≡ splice (side_at i (other side)) (live_copy (next (mark (copy x i side))) c) x → HoldsAll version y (set cells i c)
  on-side side counting done =
      let room : twin_size (i + 1) ≤ length x = (let r = holds.room in omega arith) in
      let same = SameOutside-put x y i side c sized room done in
      let n = length-set cells i c in
      let b = side_bounds i (other side) in
      let held : Held = record { payload = []; mark = 0; side = side; spare_is_live = false } in
      record {
        few = subst (λ m. FewCells m) (sym n) holds.few;
        room = (let r = holds.room in let e = same.lengths in omega arith);
        head = subst (λ m. part 0 32 y ≡ header (twin_layout version) m) (sym n) (part-same 0 32 (side_at i (other side)) 34 x y same (inl (omega arith)) ∙ holds.head);
        held = λ j l. elim (cases_eq j i) [
          | inl e ↦ subst (λ m. cell_at y m ≡ Some (get_or (set cells i c) m [])) (sym e) (cell_at-put x y i side c sized room done counting ∙ ap Some (sym (get_or-set_same cells i c [] below)))
          | inr ne ↦ cell_at-others x y i held same j ne ∙ (holds.held j (omega arith) ∙ ap Some (sym (get_or-set_other cells i j c [] ne)))
        ];
      }

module _ (version : Version) (x y : List ℕ) (cells : List (List ℕ)) (i : ℕ) (c : List ℕ) (stands : Stands (twin_layout version) x cells) (below : i < length cells) (sized : length c ≡ 32) where
  from-side : (side : Side) → counts (copy (from_base version x) i side) (copy (from_base version x) i (other side)) ≡ true
      → Some (splice (base version + side_at i (other side)) (live_copy (next (mark (copy (from_base version x) i side))) c) x) ≡ Some y → Stands (twin_layout version) y (set cells i c)
  from-side side counting put =
      let holds = held-stands version x cells stands in
      let b = side_bounds i (other side) in
      let long : length (live_copy (next (mark (copy (from_base version x) i side))) c) ≡ 34 = ap (λ n. suc (suc n)) sized in
      let done : from_base version y ≡ splice (side_at i (other side)) (live_copy (next (mark (copy (from_base version x) i side))) c) (from_base version x) =
      ap (from_base version) (sym (same_Some _ _ put)) ∙ splice-drop (base version) (side_at i (other side)) (live_copy (next (mark (copy (from_base version x) i side))) c) x (let r = holds.room in omega (arith, long, length-drop (base version) x)) in
      stands-held version y (set cells i c) (on-side version (from_base version x) (from_base version y) cells i c holds below sized side counting done)

  twin_put-stands : twin_put version x i c ≡ Some y → Stands (twin_layout version) y (set cells i c)
  unfolding twin_put
  twin_put-stands put = elim (cases_Bool (counts (copy (from_base version x) i First) (copy (from_base version x) i Second))) [
    | inl first ↦ from-side First first (sym (cond-true _ _ _ first) ∙ put)
    | inr not ↦ elim (cases_Bool (counts (copy (from_base version x) i Second) (copy (from_base version x) i First))) [
      | inl second ↦ from-side Second second (sym (cond-false _ _ _ not ∙ cond-true _ _ _ second) ∙ put)
      | inr neither ↦ absurd (none-some y (sym (cond-false _ _ _ not ∙ cond-false _ _ _ neither) ∙ put))
    ]
  ]

by_kind : (kind : Kind) (version : Version) (x y : List ℕ) (cells : List (List ℕ)) (i : ℕ) (c : List ℕ) → Stands (record { kind = kind; version = version }) x cells → i < length cells → length c ≡ 32 → PutsAs kind version x i c y → Stands (record { kind = kind; version = version }) y (set cells i c)
unfolding PutsAs
by_kind Twin version x y cells i c stands below sized put = twin_put-stands version x y cells i c stands below sized put
by_kind Log version x y cells i c stands below sized put = log_put-stands version x y cells i c stands below sized put

pub put_stands : (layout : Layout) (x y : List ℕ) (cells : List (List ℕ)) (i : ℕ) (c : List ℕ) → Stands layout x cells → i < length cells → length c ≡ 32 → Put layout x i c y → Stands layout y (set cells i c)
put_stands layout x y cells i c stands below sized put = by_kind layout.kind layout.version x y cells i c stands below sized put
