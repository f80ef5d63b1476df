-- A store stays whole over all lives.
use Rattle.std.proofs.Common.{◌≡◌, ◌≢◌, ℕ, ◌⊎◌, inl, inr, Option, Some, IsSome, List, [], ◌∷◌, length, refl, sym, ap, subst, ◌∙◌}
use Rattle.std.proofs.lemmas.Bool.{cases_lt, cases_eq}
use Rattle.cell_store.specs.Layout.{part}
use Rattle.cell_store.specs.Twin.{cell_at}
use Rattle.memory_update.specs.Loading.{slot_of}
use Rattle.slot_disk.specs.Cell.{slot_cell}
use Rattle.freshness_store.specs.Bound.{bound_cell}
use Rattle.store_plan.specs.declared.planning.Plan.{Plan}
use Rattle.store_plan.specs.Plans.{PlansPut, IsEmptyPlan, applied}
use Rattle.store_plan.specs.Leaving.{LeavesPut}
use Rattle.store_plan.proofs.CallerLemmas.{applied-cell, applied-others, applied-length, applied-head, applied-none}
use Rattle.freshness_routes.specs.Changes.{bound_ahead}
use Rattle.rathonsi_c.specs.Stores.{IsWhole}
use Rattle.rathonsi_c.specs.Lives.{Memory, Deed, sends, accepts, takes, rejoins, opens, sets, reserves, loads, drops, finishes, powers_up, Lives, DoesDeed}

-- another image with the same header, and a copy that counts in each cell
pub moved_whole : (x y : List ℕ) → length y ≡ length x → part 0 32 y ≡ part 0 32 x → ((i : ℕ) → IsSome (cell_at x i) → IsSome (cell_at y i)) → IsWhole x → IsWhole y
moved_whole x y l head cells h = record {
  count = h.count;
  size = record { least = h.size.least; most = h.size.most; is = l ∙ h.size.is };
  head = head ∙ h.head;
  cells = λ i below. cells i (h.cells i below);
}

-- one cell is new, and the others are as they were
some_cells : (x y : List ℕ) (place : ℕ) (new : List ℕ) → (cell_at y place ≡ cell_at x place) ⊎ (cell_at y place ≡ Some new) → ((j : ℕ) → j ≢ place → cell_at y j ≡ cell_at x j) → (i : ℕ) → IsSome (cell_at x i) → IsSome (cell_at y i)
some_cells x y place new here others i some = elim (cases_eq i place) [
  | inl e ↦ elim here [
    | inl old ↦ subst (λ j. IsSome (cell_at y j)) (sym e) (subst (λ (o : Option (List ℕ)). IsSome o) (sym old) (subst (λ j. IsSome (cell_at x j)) e some))
    | inr is ↦ subst (λ j. IsSome (cell_at y j)) (sym e) (subst (λ (o : Option (List ℕ)). IsSome o) (sym is) refl)
  ]
  | inr ne ↦ subst (λ (o : Option (List ℕ)). IsSome o) (sym (others i ne)) some
]

-- what is planned: nothing, or a cell
abbrev pub AnyPlanned : Memory → Type 0
AnyPlanned a = IsEmptyPlan a.plan ⊎ ((place : ℕ) × ((new : List ℕ) × PlansPut a.plan a.image place new))

pub record StaysWhole (a : Memory) : Type 0 where
  pub whole : IsWhole a.image
  pub planned : AnyPlanned a

whole-finish : (a : Memory) → StaysWhole a → IsWhole (applied a.plan a.image)
whole-finish a h = elim h.planned [
  | inl none ↦ subst (λ (y : List ℕ). IsWhole y) (sym (applied-none a.plan a.image none)) h.whole
  | inr (place, (new, plans)) ↦
      moved_whole a.image (applied a.plan a.image) (applied-length a.plan a.image place new plans) (applied-head a.plan a.image place new plans)
      (some_cells a.image (applied a.plan a.image) place new (inr (applied-cell a.plan a.image place new plans)) (applied-others a.plan a.image place new plans)) h.whole
]

whole-cut : (a : Memory) (y : List ℕ) → LeavesPut a.plan a.image y → StaysWhole a → IsWhole y
whole-cut a y cut h = elim h.planned [
  | inl none ↦
      let s = cut.none none in
      moved_whole a.image y s.size s.head (λ i some. subst (λ (o : Option (List ℕ)). IsSome o) (sym (s.cells i)) some) h.whole
  | inr (place, (new, plans)) ↦
      let s = cut.put place new plans in
      moved_whole a.image y s.size s.head (some_cells a.image y place new s.cell s.others) h.whole
]

whole-same : (a b : Memory) → b.image ≡ a.image → b.plan ≡ a.plan → StaysWhole a → StaysWhole b
whole-same a b image plan h = record {
  whole = subst (λ (y : List ℕ). IsWhole y) (sym image) h.whole;
  planned = elim h.planned [
    | inl none ↦ inl (subst (λ (p : Plan). IsEmptyPlan p) (sym plan) none)
    | inr (place, (new, plans)) ↦ inr (place, (new, subst (λ (y : List ℕ). PlansPut b.plan y place new) (sym image) (subst (λ (p : Plan). PlansPut p a.image place new) (sym plan) plans)))
  ];
}

whole-does : (n : ℕ) (deed : Deed) (a b : Memory) → StaysWhole a → DoesDeed n deed a b → StaysWhole b
whole-does n (sends k freshness) a b h d = whole-same a b d.changes.image d.changes.plan h
whole-does n (accepts k freshness) a b h d = whole-same a b d.changes.image d.changes.plan h
whole-does n (takes k counter) a b h d = whole-same a b d.1.changes.image d.1.changes.plan h
whole-does n (rejoins k counter) a b h d = whole-same a b d.changes.image d.changes.plan h
whole-does n (opens k) a b h d = whole-same a b d.changes.image d.changes.plan h
whole-does n (sets k) a b h d = whole-same a b d.changes.image d.changes.plan h
whole-does n (reserves k) a b h d = record {
  whole = subst (λ (y : List ℕ). IsWhole y) (sym d.image) h.whole;
  planned = elim (cases_lt d.reserved.bound (bound_ahead (a.routes k).reserve d.freshness)) [
    | inl low ↦ inr ((a.routes k).cell, (_, subst (λ (y : List ℕ). PlansPut b.plan y (a.routes k).cell (bound_cell (a.routes k).data_id d.reserved.direction (bound_ahead (a.routes k).reserve d.freshness))) (sym d.image) (d.reserved.plans low)))
    | inr high ↦ inl (subst (λ (p : Plan). IsEmptyPlan p) (sym (d.reserved.enough high)) d.reserved.empty)
  ];
}
whole-does n (loads other) a b h d = record {
  whole = subst (λ (y : List ℕ). IsWhole y) (sym d.image) h.whole;
  planned = inr (d.loaded.update.id, (_, subst (λ (y : List ℕ). PlansPut b.plan y d.loaded.update.id (slot_cell (slot_of d.loaded.update))) (sym d.image) d.loaded.plans));
}
whole-does n drops a b h d = record { whole = subst (λ (y : List ℕ). IsWhole y) (sym d.image) h.whole; planned = inl d.empty }
whole-does n finishes a b h d = record { whole = subst (λ (y : List ℕ). IsWhole y) (sym d.done.image_is) (whole-finish a h); planned = inl d.done.empty }
whole-does n powers_up a b h d = record { whole = whole-cut a b.image d.left h; planned = inl d.empty }

whole-over : (n : ℕ) (deeds : List Deed) (a c : Memory) → StaysWhole a → Lives n deeds a c → StaysWhole c
whole-over n [] a c h lives = subst (λ (m : Memory). StaysWhole m) (sym lives) h
whole-over n (deed ∷ deeds) a c h (b, (d, rest)) = whole-over n deeds b c (whole-does n deed a b h d) rest

pub whole_over : (n : ℕ) (deeds : List Deed) (a c : Memory) → IsEmptyPlan a.plan → IsWhole a.image → Lives n deeds a c → (y : List ℕ) → LeavesPut c.plan c.image y → IsWhole c.image × IsWhole y
whole_over n deeds a c empty whole lives y cut =
    let h = whole-over n deeds a c (record { whole = whole; planned = inl empty }) lives in
    (h.whole, whole-cut c y cut h)

-- the image stays as long
long-cut : (a : Memory) (y : List ℕ) → LeavesPut a.plan a.image y → StaysWhole a → length y ≡ length a.image
long-cut a y cut h = elim h.planned [ inl none ↦ (cut.none none).size | inr (place, (new, plans)) ↦ (cut.put place new plans).size ]

long-does : (n : ℕ) (deed : Deed) (a b : Memory) → StaysWhole a → DoesDeed n deed a b → length b.image ≡ length a.image
long-does n (sends k freshness) a b h d = ap length d.changes.image
long-does n (accepts k freshness) a b h d = ap length d.changes.image
long-does n (takes k counter) a b h d = ap length d.1.changes.image
long-does n (rejoins k counter) a b h d = ap length d.changes.image
long-does n (opens k) a b h d = ap length d.changes.image
long-does n (sets k) a b h d = ap length d.changes.image
long-does n (reserves k) a b h d = ap length d.image
long-does n (loads other) a b h d = ap length d.image
long-does n drops a b h d = ap length d.image
long-does n finishes a b h d = ap length d.done.image_is ∙ elim h.planned [
  | inl none ↦ ap length (applied-none a.plan a.image none)
  | inr (place, (new, plans)) ↦ applied-length a.plan a.image place new plans
]
long-does n powers_up a b h d = long-cut a b.image d.left h

long-over : (n : ℕ) (deeds : List Deed) (a c : Memory) → StaysWhole a → Lives n deeds a c → length c.image ≡ length a.image
long-over n [] a c h lives = ap (λ (m : Memory). length m.image) lives
long-over n (deed ∷ deeds) a c h (b, (d, rest)) = long-over n deeds b c (whole-does n deed a b h d) rest ∙ long-does n deed a b h d

pub long_over : (n : ℕ) (deeds : List Deed) (a c : Memory) → IsEmptyPlan a.plan → IsWhole a.image → Lives n deeds a c → (y : List ℕ) → LeavesPut c.plan c.image y → length y ≡ length a.image
long_over n deeds a c empty whole lives y cut =
    let start : StaysWhole a = record { whole = whole; planned = inl empty } in
    long-cut c y cut (whole-over n deeds a c start lives) ∙ long-over n deeds a c start lives
