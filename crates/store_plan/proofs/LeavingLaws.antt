-- What the power leaves while a plan is under way, said of cells.
use Rattle.std.proofs.Common.{◌≡◌, ℕ, ◌+◌, ◌<◌, ◌≤◌, inl, inr, Some, List, [], ◌∷◌, length, take, drop, set, get_or, refl, sym, ap, subst, ◌∙◌, arith}
use Rattle.std.proofs.lemmas.Bool.{cases_eq, cases_lt}
use Rattle.std.proofs.lemmas.List.{length-set, get_or-set_same, get_or-set_other}
use Rattle.std.proofs.Math.ListN.{drop_of_length-le}
use Rattle.std.proofs.Math.Seq.{take-nil}
use Rattle.cell_store.specs.declared.kinds.Version.TheVariants.{One}
use Rattle.cell_store.specs.declared.copies.Side.{Side}
use Rattle.cell_store.specs.declared.copies.Side.TheVariants.{First, Second}
use Rattle.cell_store.specs.Layout.{part, header, twin_layout}
use Rattle.cell_store.specs.Twin.{twin_size, first_at, second_at, cell_of, cell_at}
use Rattle.cell_store.specs.Copies.{other, side_at}
use Rattle.store_plan.specs.declared.planning.Plan.{Plan}
use Rattle.store_plan.specs.Plans.{PlansPut, CutWithin, IsEmptyPlan, applied}
use Rattle.store_plan.specs.Leaving.{SameCells, LeavesPut, IsImageOf}
use Rattle.store_plan.proofs.GatedLaws.{applied-cell, applied-others, applied-head, applied-length}
use Rattle.store_plan.proofs.CutLaws.{cut-cell, cut-others, cut-head, cut-length, cut-none}

-- ---- on a device of bytes

pub cut-leaves : (plan : Plan) (x y : List ℕ) → CutWithin plan x y → LeavesPut plan x y
cut-leaves plan x y cut = record {
  put = λ i c p. record {
    size = cut-length plan x y i c p cut;
    head = cut-head plan x y i c p cut;
    cell = cut-cell plan x y i c p cut;
    others = cut-others plan x y i c p cut;
  };
  none = λ none. let e = cut-none plan x y none cut in record {
    size = ap (λ (z : List ℕ). length z) e;
    head = ap (λ (z : List ℕ). part 0 32 z) e;
    cells = λ i. ap (λ (z : List ℕ). cell_at z i) e;
  };
}

-- ---- a plan is one of one put at most

one-place : (i j : ℕ) (s t : Side) → side_at i s + 1 ≡ side_at j t + 1 → i ≡ j
one-place i j First First e = omega (arith, e)
one-place i j First Second e = absurd (omega (arith, e))
one-place i j Second First e = absurd (omega (arith, e))
one-place i j Second Second e = omega (arith, e)

rest-same : (a b : ℕ) (c d : List ℕ) → a ∷ c ≡ b ∷ d → c ≡ d
rest-same a b c d e = ap (λ (l : List ℕ). drop 1 l) e

module _ (plan : Plan) (x : List ℕ) (i j : ℕ) (c d : List ℕ) (p : PlansPut plan x i c) (q : PlansPut plan x j d) where
  pub one-cell : i ≡ j
  one-cell = one-place i j (other p.side) (other q.side) (sym p.gated.fills.place ∙ q.gated.fills.place)

  pub one-payload : c ≡ d
  one-payload = rest-same _ _ c d (sym p.gated.fills.is ∙ q.gated.fills.is)

put-not_empty : (plan : Plan) (x : List ℕ) (i : ℕ) (c : List ℕ) → PlansPut plan x i c → IsEmptyPlan plan → ⊥
put-not_empty plan x i c p none = omega (arith, none.third, p.gated.opens.count)

-- ---- on a device that keeps cells

-- beyond its cells an image has none
part-beyond : (at n : ℕ) (x : List ℕ) → length x ≤ at → part at n x ≡ []
part-beyond at n x far = ap (λ (l : List ℕ). take n l) (drop_of_length-le x far) ∙ take-nil n

cell-beyond : (x y : List ℕ) (i : ℕ) → length x ≤ first_at i → length y ≤ first_at i → cell_at y i ≡ cell_at x i
unfolding cell_at
cell-beyond x y i far wide =
    ap (λ (l : List ℕ). cell_of l (part (second_at i) 34 y)) (part-beyond (first_at i) 34 y wide ∙ sym (part-beyond (first_at i) 34 x far))
    ∙ ap (λ (l : List ℕ). cell_of (part (first_at i) 34 x) l)
    (part-beyond (second_at i) 34 y (omega (arith, wide)) ∙ sym (part-beyond (second_at i) 34 x (omega (arith, far))))

module _ (x y : List ℕ) (olds news : List (List ℕ)) (a : IsImageOf x olds) (b : IsImageOf y news) (same : length news ≡ length olds) where
  sizes : length y ≡ length x
  sizes = b.size ∙ (ap twin_size same ∙ sym a.size)

  heads : part 0 32 y ≡ part 0 32 x
  heads = b.head ∙ (ap (λ n. header (twin_layout One) n) same ∙ sym a.head)

  cell-same : (i : ℕ) → get_or news i [] ≡ get_or olds i [] → cell_at y i ≡ cell_at x i
  cell-same i e = elim (cases_lt i (length olds)) [
    | inl below ↦ b.held i (omega (arith, same, below)) ∙ (ap Some e ∙ sym (a.held i below))
    | inr far ↦ cell-beyond x y i (omega (arith, a.size, far)) (omega (arith, b.size, same, far))
  ]

  images-same : ((i : ℕ) → get_or news i [] ≡ get_or olds i []) → SameCells x y
  images-same e = record { size = sizes; head = heads; cells = λ i. cell-same i (e i) }

pub images-unchanged : (plan : Plan) (x y : List ℕ) (cells : List (List ℕ)) → IsImageOf x cells → IsImageOf y cells → LeavesPut plan x y
images-unchanged plan x y cells a b =
    let s : SameCells x y = images-same x y cells cells a b refl (λ i. refl) in
    record {
      put = λ i c p. record { size = s.size; head = s.head; cell = inl (s.cells i); others = λ other ne. s.cells other };
      none = λ none. s;
    }

pub images-put : (plan : Plan) (x y : List ℕ) (cells : List (List ℕ)) (i : ℕ) (c : List ℕ) → IsImageOf x cells → PlansPut plan x i c → IsImageOf y (set cells i c) → LeavesPut plan x y
images-put plan x y cells i c a p b = record {
  put = λ j d q.
      let here : i ≡ j = one-cell plan x i j c d p q in
      let new : c ≡ d = one-payload plan x i j c d p q in
      let below : i < length cells = omega (arith, p.room, a.size) in
      record {
        size = sizes x y cells (set cells i c) a b (length-set cells i c);
        head = heads x y cells (set cells i c) a b (length-set cells i c);
        cell = inr (subst (λ k. cell_at y k ≡ Some d) here (b.held i (omega (arith, below, length-set cells i c)) ∙ (ap Some (get_or-set_same cells i c [] below) ∙ ap Some new)));
        others = λ other ne. cell-same x y cells (set cells i c) a b (length-set cells i c) other (get_or-set_other cells i other c [] (λ e. ne (e ∙ here)));
      };
  none = λ none. absurd (put-not_empty plan x i c p none);
}

-- ---- a put that is done keeps an image one of its cells

pub image-put : (plan : Plan) (x : List ℕ) (cells : List (List ℕ)) (i : ℕ) (c : List ℕ) → IsImageOf x cells → PlansPut plan x i c → IsImageOf (applied plan x) (set cells i c)
image-put plan x cells i c a p =
    let n : length (set cells i c) ≡ length cells = length-set cells i c in
    let below : i < length cells = omega (arith, p.room, a.size) in
    record {
      size = applied-length plan x i c p ∙ (a.size ∙ ap twin_size (sym n));
      head = applied-head plan x i c p ∙ (a.head ∙ ap (λ m. header (twin_layout One) m) (sym n));
      held = λ j l. elim (cases_eq j i) [
        | inl is ↦ subst (λ m. cell_at (applied plan x) m ≡ Some (get_or (set cells i c) m [])) (sym is)
            (applied-cell plan x i c p ∙ ap Some (sym (get_or-set_same cells i c [] below)))
        | inr ne ↦ applied-others plan x i c p j ne ∙ (a.held j (omega (arith, l, n)) ∙ ap Some (sym (get_or-set_other cells i j c [] ne)))
      ];
    }
