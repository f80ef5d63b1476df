-- What the power leaves that goes within a plan.
use Rattle.std.proofs.Common.{◌≡◌, ◌≢◌, ℕ, ◌+◌, ◌<◌, ◌≤◌, ◌⊎◌, inl, inr, Bool, Some, List, [], ◌∷◌, length, set, refl, sym, ap, subst, ◌∙◌, arith, Option, length-take}
use Rattle.std.proofs.lemmas.List.{ext_get_or}
use Rattle.std.proofs.lemmas.Bool.{cases_Bool, cases_lt}
use Rattle.std.proofs.lemmas.Option.{same_Some}
use Rattle.cut_disk.specs.State.{Told}
use Rattle.cut_disk.specs.Images.{splice, firm, Image, EachImage}
use Rattle.cut_disk.proofs.CallerLemmas.{image_is_read, image_of_firm}
use Rattle.cell_store.specs.declared.kinds.Version.TheVariants.{One}
use Rattle.cell_store.specs.Layout.{SameOutside, part, twin_layout}
use Rattle.cell_store.specs.Twin.{is_live, cell_at}
use Rattle.cell_store.specs.Copies.{other, copy}
use Rattle.cell_store.specs.Store.{Stands}
use Rattle.cell_store.specs.Writing.{LeavesOutside, ClosesGate, LeavesUnfinished, Unfinished}
use Rattle.cell_store.proofs.CallerLemmas.{part-same, SameOutside-refl, SameOutside-splice, SameOutside-widen, side_bounds, cell_at-kept, cell_at-others, cell_at-unfinished, closing, filling, opening, torn-outside}
use Rattle.store_plan.specs.declared.planning.Write.{Write}
use Rattle.store_plan.specs.declared.planning.Plan.{Plan}
use Rattle.store_plan.specs.Plans.{WritesAt, PlansPut, CutWithin, in_first, in_second, in_third, IsEmptyPlan, applied, applied_write, bytes_written}
use Rattle.store_plan.specs.Performing.{WriteDone, WriteTorn}
use Rattle.store_plan.proofs.GatedLaws.{no_bytes, splice-at, splice-empty, new_at, behind, long, inside, counted, keeps, unfinished-stands}
use Rattle.store_plan.proofs.LeavesLaws.{gate-closed}

-- a write over firm bytes
pub apply-done : (w : Write) (x : List ℕ) → WriteDone w (Some (firm x)) (Some (firm (applied_write w x)))
apply-done w x = record {
  none = λ e. ap (λ (y : List ℕ). Some (firm y)) (splice-empty w x e);
  lasts = λ at new some p t told.
      (let e : firm x ≡ t = same_Some _ _ told in
      ap (λ (y : List ℕ). Some (firm y)) (splice-at w at new x p ∙ ap (λ (u : Told). splice at new u.bytes) e));
}

pub outside-firm : (at n : ℕ) (x y : List ℕ) → SameOutside at n x y → LeavesOutside at n (Some (firm x)) (Some (firm y))
outside-firm at n x y s b was t told z image =
    let xe : x ≡ b = ap (λ (u : Told). u.bytes) (same_Some _ _ was) in
    let te : t ≡ firm y = sym (same_Some _ _ told) in
    let ze : z ≡ y = image_of_firm (subst (λ (u : Told). Image u z) te image) in
    subst (λ (v : List ℕ). SameOutside at n b v) (sym ze) (subst (λ (v : List ℕ). SameOutside at n v y) xe s)

pub read-firm : (n at : ℕ) (new x y : List ℕ) → LeavesUnfinished n at new (Some (firm x)) (Some (firm y)) → Unfinished n at new x y
read-firm n at new x y l = l x refl (firm y) refl y (image_is_read (firm y))

-- no byte is changed
pub same-all : (at : ℕ) (x y : List ℕ) → SameOutside at 0 x y → y ≡ x
same-all at x y s = ext_get_or 0 y x s.lengths (λ k l. elim (cases_lt k at) [ inl b ↦ s.below k b | inr a ↦ s.above k (omega arith) ])

-- a write of some bytes is cut within them
pub at-place : (w : Write) (at : ℕ) (new x y : List ℕ) → WritesAt w at new → SameOutside w.offset w.size x y → SameOutside at (length new) x y
at-place w at new x y p s = subst (λ n. SameOutside at n x y) p.count (subst (λ n. SameOutside n w.size x y) p.place s)

module _ (plan : Plan) (x y : List ℕ) (i : ℕ) (c : List ℕ) (p : PlansPut plan x i c) where
  abbrev at : ℕ
  at = new_at plan x i c p

  abbrev rest : List ℕ
  rest = behind plan x i c p

  abbrev live : Bool
  live = is_live (copy x i (other p.side))

  many : length rest ≡ 33
  many = long plan x i c p

  gate : (t : Told) → Some (firm x) ≡ Some t → is_live (part at 34 t.bytes) ≡ live
  gate t told = ap (λ (u : Told). is_live (part at 34 u.bytes)) (sym (same_Some _ _ told))

  wide : (t : Told) → Some (firm x) ≡ Some t → at + 34 ≤ length t.bytes
  wide t told = let e : firm x ≡ t = same_Some _ _ told in let l : length x ≡ length t.bytes = ap (λ (u : Told). length u.bytes) e in let r = inside plan x i c p in omega arith

  closed : ClosesGate 33 at (Some (firm x)) (Some (firm (applied_write plan.first x)))
  closed = gate-closed plan 33 at live rest _ _ p.gated (λ t told. let w = wide t told in omega arith) gate (apply-done plan.first x)

  nothing : y ≡ x → Unfinished 33 at (167 ∷ rest) x y
  nothing e = subst (λ (z : List ℕ). Unfinished 33 at (167 ∷ rest) x z) (sym e) (record { same = SameOutside-refl at 34 x; spare = inr (inl refl) })

  pub cut-unfinished : CutWithin plan x y → Unfinished 33 at (167 ∷ rest) x y
  cut-unfinished cut = elim cut [
    | in_first s ↦ elim (cases_Bool live) [
      | inl on ↦ read-firm 33 at (167 ∷ rest) x y (closing 33 at (167 ∷ rest) _ _ (λ t told. gate t told ∙ on) (outside-firm at 1 x y (at-place plan.first at (0 ∷ []) x y (p.gated.closes on) s)))
      | inr off ↦ nothing (same-all plan.first.offset x y (subst (λ n. SameOutside plan.first.offset n x y) (no_bytes plan.first (p.gated.closed off)) s))
    ]
    | in_second s ↦ read-firm 33 at (167 ∷ rest) x y (filling 33 at (167 ∷ rest) _ _ _ closed
        (outside-firm (at + 1) 33 (applied_write plan.first x) y (subst (λ n. SameOutside (at + 1) n (applied_write plan.first x) y) many (at-place plan.second (at + 1) rest (applied_write plan.first x) y p.gated.fills s))))
    | in_third s ↦ read-firm 33 at (167 ∷ rest) x y (opening 33 at rest many _ _ _ _ wide closed
        ((apply-done plan.second (applied_write plan.first x)).lasts (at + 1) rest (let m = many in omega arith) p.gated.fills)
        (outside-firm at 1 (applied_write plan.second (applied_write plan.first x)) y (at-place plan.third at (167 ∷ []) (applied_write plan.second (applied_write plan.first x)) y p.gated.opens s)))
  ]

  pub cut-stands : CutWithin plan x y → (cells : List (List ℕ)) → Stands (twin_layout One) x cells → i < length cells → Stands (twin_layout One) y cells ⊎ Stands (twin_layout One) y (set cells i c)
  cut-stands cut cells stands below = unfinished-stands plan x i c p y cells stands below (cut-unfinished cut)

  pub cut-cell : CutWithin plan x y → (cell_at y i ≡ cell_at x i) ⊎ (cell_at y i ≡ Some c)
  cut-cell cut = elim (cell_at-unfinished x y i (counted plan x i c p) c (keeps plan x i c p) (cut-unfinished cut)) [
    | inl old ↦ inl (old ∙ sym (cell_at-kept x i (counted plan x i c p) (keeps plan x i c p)))
    | inr new ↦ inr new
  ]

  pub cut-others : CutWithin plan x y → (j : ℕ) → j ≢ i → cell_at y j ≡ cell_at x j
  cut-others cut j ne = cell_at-others x y i (counted plan x i c p) (cut-unfinished cut).same j ne

  -- the header is as it was
  pub cut-head : CutWithin plan x y → part 0 32 y ≡ part 0 32 x
  cut-head cut =
      let b = side_bounds i (other p.side) in
      part-same 0 32 at 34 x y (cut-unfinished cut).same (inl (omega arith))

  -- the image is as long
  pub cut-length : CutWithin plan x y → length y ≡ length x
  cut-length cut = (cut-unfinished cut).same.lengths

-- within an empty plan nothing is cut, and nothing is done
pub cut-none : (plan : Plan) (x y : List ℕ) → IsEmptyPlan plan → CutWithin plan x y → y ≡ x
cut-none plan x y none cut = elim cut [
  | in_first s ↦ same-all plan.first.offset x y (subst (λ n. SameOutside plan.first.offset n x y) none.first s)
  | in_second s ↦ same-all plan.second.offset (applied_write plan.first x) y (subst (λ n. SameOutside plan.second.offset n (applied_write plan.first x) y) none.second s) ∙ splice-empty plan.first x none.first
  | in_third s ↦ same-all plan.third.offset (applied_write plan.second (applied_write plan.first x)) y (subst (λ n. SameOutside plan.third.offset n (applied_write plan.second (applied_write plan.first x)) y) none.third s)
      ∙ (splice-empty plan.second (applied_write plan.first x) none.second ∙ splice-empty plan.first x none.first)
]

pub applied-none : (plan : Plan) (x : List ℕ) → IsEmptyPlan plan → applied plan x ≡ x
applied-none plan x none =
    splice-empty plan.third (applied_write plan.second (applied_write plan.first x)) none.third ∙ (splice-empty plan.second (applied_write plan.first x) none.second ∙ splice-empty plan.first x none.first)

-- A write over firm bytes, on a disk: one that failed, and one that is done.
pub torn-cut : (w : Write) (x : List ℕ) (a b : Option Told) → a ≡ Some (firm x) → (0 < w.size → w.offset + w.size ≤ length x) → WriteTorn w a b → EachImage b (SameOutside w.offset w.size x)
torn-cut w x a b was fits torn =
    torn-outside w.offset w.size a b (λ t h. let f = fits torn.some in let e : length x ≡ length t.bytes = ap (λ (u : Told). length u.bytes) (same_Some _ _ (sym was ∙ h)) in omega arith) torn.torn x was

pub done-cut : (w : Write) (x : List ℕ) (b : Option Told) → (0 < w.size → w.offset + w.size ≤ length x) → b ≡ Some (firm (applied_write w x)) → EachImage b (SameOutside w.offset w.size x)
done-cut w x b fits is t told y image =
    let te : t ≡ firm (applied_write w x) = same_Some _ _ (sym told ∙ is) in
    let ye : y ≡ applied_write w x = image_of_firm (subst (λ (u : Told). Image u y) te image) in
    let few : length (bytes_written w) ≤ w.size = omega (arith, length-take w.size w.bytes) in
    subst (λ (z : List ℕ). SameOutside w.offset w.size x z) (sym ye)
    (elim (cases_lt 0 w.size) [
      | inl some ↦ (let f = fits some in SameOutside-widen w.offset (length (bytes_written w)) w.offset w.size x (applied_write w x) (omega arith) (omega arith) (SameOutside-splice w.offset (bytes_written w) x (omega arith)))
      | inr none ↦ subst (λ (z : List ℕ). SameOutside w.offset w.size x z) (sym (splice-empty w x (omega arith))) (SameOutside-refl w.offset w.size x)
    ])

pub still-firm : (w : Write) (x : List ℕ) (a : Option Told) → w.size ≡ 0 → a ≡ Some (firm x) → a ≡ Some (firm (applied_write w x))
still-firm w x a none was = was ∙ ap (λ (y : List ℕ). Some (firm y)) (sym (splice-empty w x none))
