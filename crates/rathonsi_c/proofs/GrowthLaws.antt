-- A store that grows: what one call and its plan leave of the cells, and what the calls answer then.
use Rattle.std.proofs.Common.{◌≡◌, ◌≢◌, ℕ, zero, suc, ◌+◌, ◌<◌, ◌≤◌, ◌⊎◌, inl, inr, Some, None, IsSome, Option, List, [], ◌∷◌, ◌++◌, length, replicate, get_or, refl, sym, ap, subst, ◌∙◌, arith, length-append}
use Rattle.std.proofs.lemmas.Bool.{cases_eq}
use Rattle.std.proofs.lemmas.List.{take_at, take-append-le}
use Rattle.std.proofs.lemmas.Option.{none-some, same_Some}
use Rattle.basics.specs.Numbers.{bytes_of}
use Rattle.cell_store.specs.declared.kinds.Version.TheVariants.{One}
use Rattle.cell_store.specs.Layout.{part, twin_layout}
use Rattle.cell_store.specs.Twin.{twin_size, cell_at}
use Rattle.cell_store.specs.Store.{HasHeader}
use Rattle.key_slots.specs.declared.memory.Flags.{Flags}
use Rattle.key_slots.specs.declared.memory.Slot.TheVariants.{Filled}
use Rattle.slot_disk.specs.Cell.{slot_cell}
use Rattle.freshness_routes.specs.declared.routes.Direction.{Direction}
use Rattle.freshness_store.specs.Bound.{bound_cell}
use Rattle.store_plan.specs.declared.planning.Plan.{Plan}
use Rattle.store_plan.specs.Plans.{PlansPut, IsEmptyPlan, CutWithin, applied}
use Rattle.store_plan.specs.Growing.{EndsErased, MayGrow, PlansGrowth, PlansCount}
use Rattle.store_plan.proofs.CallerLemmas.{applied-none, count-cells, count-done, count-same, cut-leaves, cut-none, free-none, growth-cut, growth-done, growth-others, growth-same, head-counted, is-some, put-done, said-beside, says-once}
use Rattle.rathonsi_c.specs.declared.route.RathonsiRoute.{RathonsiRoute}
use Rattle.rathonsi_c.specs.Growing.{SaysSize, PlansNumber, PlansCell, IsSpare}
use Rattle.rathonsi_c.specs.Lives.{RisesTo}
use Rattle.rathonsi_c.specs.Softwares.{Table, GrowthStep, GrowthSteps}
use Rattle.rathonsi_c.proofs.DiskLaws.{front-cell, front-part}

pub long_cell : (id : ℕ) (direction : Direction) (bound : ℕ) → length (bound_cell id direction bound) ≡ 32
unfolding bound_cell bytes_of
long_cell id direction bound = refl

not-zero : (n : ℕ) → 0 < n → n ≡ 0 → ⊥
not-zero n some e = omega arith

-- a cell of zero bytes holds no bound and no key
pub no_bound_is_zeros : (id : ℕ) (direction : Direction) (bound : ℕ) → bound_cell id direction bound ≡ replicate 32 0 → ⊥
unfolding bound_cell
no_bound_is_zeros id direction bound e = not-zero 2 (omega arith) (ap (λ l. get_or l 0 0) e)

pub no_key_is_zeros : (key : List ℕ) (flags : Flags) (counter : ℕ) → slot_cell (Filled key counter flags) ≡ replicate 32 0 → ⊥
unfolding slot_cell
no_key_is_zeros key flags counter e = not-zero 1 (omega arith) (ap (λ l. get_or l 0 0) e)

-- two rising lists, the second above the end of the first
pub rises_join : (low mid from end : ℕ) (xs ys : List ℕ) → RisesTo low xs mid → mid ≤ from → RisesTo from ys end → RisesTo low (xs ++ ys) end
rises_join low mid from end [] [] a b c = omega (arith, a, b, c)
rises_join low mid from end [] (y ∷ ys) a b c = (let l = c.0 in omega (arith, a, b, l), c.1)
rises_join low mid from end (x ∷ xs) ys a b c = (a.0, rises_join x mid from end xs ys a.1 b c)

-- what a list begins with has the cells that are within it
pub cell_within : (x y : List ℕ) (i : ℕ) → twin_size (i + 1) ≤ length x → cell_at (x ++ y) i ≡ cell_at x i
cell_within x y i room =
    sym (front-cell (x ++ y) (i + 1) i (omega arith) (omega (arith, length-append x y)))
    ∙ (ap (λ (l : List ℕ). cell_at l i) (take-append-le (twin_size (i + 1)) x y room) ∙ front-cell x (i + 1) i (omega arith) room)

pub head_within : (x y : List ℕ) → 32 ≤ length x → part 0 32 x ≡ part 0 32 (x ++ y)
head_within x y room =
    ap (λ (l : List ℕ). part 0 32 l) (sym (take_at x y (length x) refl)) ∙ front-part (x ++ y) (length x) 0 32 room (omega (arith, length-append x y))

abbrev pub Head : ℕ → List ℕ → Type 0
Head n x = HasHeader (twin_layout One) n x

abbrev Zeros : List ℕ
Zeros = replicate 32 0

-- ---- one step

-- a cell of a route that wasn't there, or was nobody's, is made
pub record Made (x y : List ℕ) (j : ℕ) : Type 0 where
  pub least : 14 ≤ j
  pub nobodys : (cell_at x j ≡ None) ⊎ IsSpare x j
  pub some : IsSome (cell_at y j)

-- what a step leaves: so many cells as before, or one more, and each is as it was, or is made
pub record Stepped (x y : List ℕ) : Type 0 where
  pub long : length y ≡ length x
  pub count : ℕ
  pub told : SaysSize x count
  pub next : ℕ
  pub least : count ≤ next
  pub said : SaysSize y next
  pub cells : (j : ℕ) → (cell_at y j ≡ cell_at x j) ⊎ Made x y j

module _ (x : List ℕ) (n : ℕ) (told : SaysSize x n) (y : List ℕ) where
  by-nothing : y ≡ x → Stepped x y
  by-nothing e = record {
    long = ap length e;
    count = n;
    told = told;
    next = n;
    least = omega arith;
    said = subst (λ (z : List ℕ). SaysSize z n) (sym e) told;
    cells = λ j. inl (ap (λ (z : List ℕ). cell_at z j) e);
  }

  ends : ¬ Head n x → EndsErased x n
  ends other = elim told.says.sure [ inl head ↦ absurd (other head) | inr e ↦ e ]

  by-number : (plan : Plan) → ¬ Head n x → PlansCount plan n → CutWithin plan x y → Stepped x y
  by-number plan other p cut =
      let room : 32 ≤ length x = (let r = told.says.counts.room in omega arith) in
      let s = count-same n x room plan p y cut in
      record {
        long = s.lengths;
        count = n;
        told = told;
        next = n;
        least = omega arith;
        said = record { least = told.least; most = told.most; says = said-beside x y n s told.says.head told.says.counts (ends other) };
        cells = λ j. inl (count-cells n x room plan p y j cut);
      }

  by-growth : (plan : Plan) (c : List ℕ) → length c ≡ 32 → n < 270 → Head n x → MayGrow x n → PlansGrowth plan n c → CutWithin plan x y → Stepped x y
  by-growth plan c sized few head may p cut =
      let room : twin_size (n + 1) ≤ length x = (let r = may.after.room in omega arith) in
      let long = (growth-same n c sized x room plan p y cut).lengths in
      elim (growth-cut n c sized x room plan p head may.free (omega arith) told.says.counts may.after y cut) [
        | inl old ↦ record {
          long = long;
          count = n;
          told = told;
          next = n;
          least = omega arith;
          said = record { least = told.least; most = told.most; says = old.0 };
          cells = λ j. elim (cases_eq j n) [
            | inl here ↦ inl (subst (λ i. cell_at y i ≡ cell_at x i) (sym here) (free-none y n old.1 ∙ sym (free-none x n may.free)))
            | inr there ↦ inl (growth-others n c sized x room plan p y j cut there)
          ];
        }
        | inr new ↦ record {
          long = long;
          count = n;
          told = told;
          next = n + 1;
          least = omega arith;
          said = record { least = (let l = told.least in omega arith); most = omega arith; says = new.0 };
          cells = λ j. elim (cases_eq j n) [
            | inl here ↦ inr (subst (λ i. Made x y i) (sym here) (record { least = told.least; nobodys = inl (free-none x n may.free); some = is-some (cell_at y n) c new.1 }))
            | inr there ↦ inl (growth-others n c sized x room plan p y j cut there)
          ];
        }
      ]

  by-put : (plan : Plan) (i : ℕ) (c : List ℕ) → 14 ≤ i → i < n → Head n x → IsSpare x i → PlansPut plan x i c → CutWithin plan x y → Stepped x y
  by-put plan i c least below head spare p cut =
      let l = (cut-leaves plan x y cut).put i c p in
      let here : Head n y = l.head ∙ head in
      let room : twin_size n ≤ length y = (let r = told.says.counts.room in let e = l.size in omega arith) in
      let some : IsSome (cell_at y i) = elim l.cell [
        | inl old ↦ subst (λ (o : Option (List ℕ)). IsSome o) (sym old) (told.says.counts.cells i below)
        | inr new ↦ is-some (cell_at y i) c new
      ] in
      record {
        long = l.size;
        count = n;
        told = told;
        next = n;
        least = omega arith;
        said = record {
          least = told.least;
          most = told.most;
          says = record {
            head = head-counted n n y (omega arith) here;
            counts = record {
              most = told.says.counts.most;
              room = room;
              cells = λ j b. elim (cases_eq j i) [
                | inl e ↦ subst (λ k. IsSome (cell_at y k)) (sym e) some
                | inr ne ↦ subst (λ (o : Option (List ℕ)). IsSome o) (sym (l.others j ne)) (told.says.counts.cells j b)
              ];
              end = λ few long. l.others n (λ e. omega arith) ∙ told.says.counts.end few (let e = l.size in omega arith);
            };
            sure = inl here;
          };
        };
        cells = λ j. elim (cases_eq j i) [
          | inl e ↦ inr (subst (λ k. Made x y k) (sym e) (record { least = least; nobodys = inr spare; some = some }))
          | inr ne ↦ inl (l.others j ne)
        ];
      }

-- what a claim leaves tells the same number
pub by-put-told : (x : List ℕ) (n : ℕ) → SaysSize x n → (y : List ℕ) (plan : Plan) (i : ℕ) (c : List ℕ) → 14 ≤ i → i < n → Head n x → IsSpare x i → PlansPut plan x i c → CutWithin plan x y → SaysSize y n
unfolding by-put
by-put-told x n told y plan i c least below head spare p cut = (by-put x n told y plan i c least below head spare p cut).said

-- a plan that is done is one that was cut after its last byte
pub cut-or-none : (plan : Plan) (x y : List ℕ) → CutWithin plan x (applied plan x) → (y ≡ applied plan x) ⊎ CutWithin plan x y → CutWithin plan x y
cut-or-none plan x y whole after = elim after [ inl e ↦ subst (λ (z : List ℕ). CutWithin plan x z) (sym e) whole | inr cut ↦ cut ]

pub nothing-left : (old plan : Plan) (x y : List ℕ) → IsEmptyPlan old → plan ≡ old → (y ≡ applied plan x) ⊎ CutWithin plan x y → y ≡ x
nothing-left old plan x y empty same after =
    let none : IsEmptyPlan plan = subst (λ (p : Plan). IsEmptyPlan p) (sym same) empty in
    elim after [ inl e ↦ e ∙ applied-none plan x none | inr cut ↦ cut-none plan x y none cut ]

stepped-number : (x y : List ℕ) (old plan : Plan) → PlansNumber x old plan → (y ≡ applied plan x) ⊎ CutWithin plan x y → Stepped x y
stepped-number x y old plan p after = elim p.plans [
  | inl (head, same) ↦ by-nothing x p.count p.told y (nothing-left old plan x y p.empty same after)
  | inr (other, number) ↦ by-number x p.count p.told y plan other number
      (cut-or-none plan x y (count-done p.count x (let r = p.told.says.counts.room in omega arith) plan number) after)
]

pub stepped-cell : (r : RathonsiRoute) (bound : ℕ) (x y : List ℕ) (old plan : Plan) → PlansCell r bound x old plan → (y ≡ applied plan x) ⊎ CutWithin plan x y → Stepped x y
stepped-cell r bound x y old plan p after =
    let c : List ℕ = bound_cell r.data_id p.direction bound in
    let sized = long_cell r.data_id p.direction bound in
    elim p.plans [
      | inl (other, number) ↦ by-number x p.count p.told y plan other number
          (cut-or-none plan x y (count-done p.count x (let r = p.told.says.counts.room in omega arith) plan number) after)
      | inr (head, alone, which) ↦ elim which [
        | inl (at, few, may, grows) ↦ by-growth x p.count p.told y plan c sized few head may grows
            (cut-or-none plan x y (growth-done p.count c sized x (let r = may.after.room in omega arith) plan grows) after)
        | inr (below, own) ↦ elim own [
          | inl (spare, put) ↦ by-put x p.count p.told y plan r.cell c p.ranges.cell_least below head spare put
              (cut-or-none plan x y (put-done plan x r.cell c put) after)
          | inr (kept, same) ↦ by-nothing x p.count p.told y (nothing-left old plan x y p.empty same after)
        ]
      ]
    ]

pub stepped : (table : Table) (x y : List ℕ) → GrowthStep table x y → Stepped x y
stepped table x y s = elim s.planned [
  | inl number ↦ stepped-number x y s.old s.plan number s.after
  | inr g ↦ stepped-cell g.filled (table.first g.which) x y s.old s.plan g.cell s.after
]

-- ---- many steps

-- what steps leave of what was there
pub record Follows (x z : List ℕ) : Type 0 where
  pub long : length z ≡ length x
  pub some : (j : ℕ) → IsSome (cell_at x j) → IsSome (cell_at z j)
  pub same : (j : ℕ) (c : List ℕ) → cell_at x j ≡ Some c → c ≢ Zeros → cell_at z j ≡ Some c
  pub slots : (j : ℕ) → j < 14 → cell_at z j ≡ cell_at x j

pub follows-step : (x y : List ℕ) → Stepped x y → Follows x y
follows-step x y s = record {
  long = s.long;
  some = λ j there. elim (s.cells j) [ inl e ↦ subst (λ (o : Option (List ℕ)). IsSome o) (sym e) there | inr m ↦ m.some ];
  same = λ j c is other. elim (s.cells j) [
    | inl e ↦ e ∙ is
    | inr m ↦ elim m.nobodys [ inl none ↦ absurd (none-some c (sym none ∙ is)) | inr spare ↦ absurd (other (same_Some _ _ (sym is ∙ spare))) ]
  ];
  slots = λ j below. elim (s.cells j) [ inl e ↦ e | inr m ↦ (let l = m.least in absurd (omega arith)) ];
}

follows-both : (x y z : List ℕ) → Follows x y → Follows y z → Follows x z
follows-both x y z a b = record {
  long = b.long ∙ a.long;
  some = λ j there. b.some j (a.some j there);
  same = λ j c is other. b.same j c (a.same j c is other) other;
  slots = λ j below. b.slots j below ∙ a.slots j below;
}

pub follows : (table : Table) (steps : ℕ) (x z : List ℕ) → GrowthSteps table steps x z → Follows x z
follows table zero x z e = record {
  long = ap length e;
  some = λ j there. subst (λ (w : List ℕ). IsSome (cell_at w j)) (sym e) there;
  same = λ j c is other. ap (λ (w : List ℕ). cell_at w j) e ∙ is;
  slots = λ j below. ap (λ (w : List ℕ). cell_at w j) e;
}
follows table (suc steps) x z (y, (step, rest)) = follows-both x y z (follows-step x y (stepped table x y step)) (follows table steps y z rest)

-- a store that tells its cells tells them after each step, and no fewer
pub tells-on : (table : Table) (steps : ℕ) (n : ℕ) (x z : List ℕ) → SaysSize x n → GrowthSteps table steps x z → (m : ℕ) × (SaysSize z m × (n ≤ m))
tells-on table zero n x z told e = (n, (subst (λ (w : List ℕ). SaysSize w n) (sym e) told, omega arith))
tells-on table (suc steps) n x z told (y, (step, rest)) =
    let s = stepped table x y step in
    let same : s.count ≡ n = says-once x s.count n s.told.says told.says in
    let l = s.least in
    let t = tells-on table steps s.next y z s.said rest in
    (t.0, (t.1.0, (let m = t.1.1 in omega arith)))
