-- A store whose room the production line erased gets all its cells, and no third call plans anything.
use Rattle.std.proofs.Common.{ℤ, ◌≡◌, ◌≢◌, ℕ, zero, suc, ◌+◌, ◌<◌, ◌≤◌, ◌⊎◌, inl, inr, Some, None, List, length, replicate, sym, ap, subst, ◌∙◌, arith}
use Rattle.std.proofs.lemmas.Bool.{cases_eq}
use Rattle.std.proofs.lemmas.Option.{none-some, same_Some}
use Rattle.basics.proofs.CallerLemmas.{length-bytes_of}
use Rattle.cell_store.specs.Layout.{SameOutside}
use Rattle.cell_store.specs.Twin.{twin_size, first_at, second_at, is_live, cell_at}
use Rattle.cell_store.proofs.CallerLemmas.{part-same}
use Rattle.freshness_routes.specs.declared.routes.Direction.{Direction}
use Rattle.freshness_store.specs.Bound.{bound_cell}
use Rattle.store_plan.specs.declared.planning.Plan.{Plan}
use Rattle.store_plan.specs.Plans.{PlansPut, IsEmptyPlan, CutWithin, applied}
use Rattle.store_plan.specs.Growing.{SaysCells, IsErased, EndsErased, MayGrow, PlansGrowth, PlansCount}
use Rattle.store_plan.proofs.CallerLemmas.{applied-cell, applied-head, applied-none, cell-apart, count-cells, count-done, count-head, count-same, cut-leaves, erased-free, free-none, growth-cell, growth-cut, growth-done, growth-head, growth-others, growth-same, put-done, put-same, said-beside, says-once}
use Rattle.rathonsi_c.specs.declared.TheConstants.{OK}
use Rattle.rathonsi_c.specs.declared.route.RathonsiRoute.{RathonsiRoute}
use Rattle.rathonsi_c.specs.Growing.{SaysSize, PlansNumber, PlansCell, IsSpare, GrowAnswers, NumberAnswers, CellPlaceAnswers, OwnAnswers}
use Rattle.rathonsi_c.specs.Images.{ImageBound}
use Rattle.rathonsi_c.specs.Lives.{SameRoute}
use Rattle.rathonsi_c.specs.Routes.{InRanges}
use Rattle.rathonsi_c.specs.Softwares.{Table, GrowthSteps, StoreWithRoom, HasOwnCell, HasFirstBound}
use Rattle.rathonsi_c.proofs.AnswerLaws.{damaged_keeps_none}
use Rattle.rathonsi_c.proofs.GrowthLaws.{Head, cut-or-none, long_cell, no_bound_is_zeros, nothing-left, by-put-told}
use Rattle.rathonsi_c.proofs.RollBackLaws.{tell-only}

-- ---- the room stays

module _ (n top : ℕ) (x y : List ℕ) (r : StoreWithRoom n top x) where
  erased-kept : (j lo k : ℕ) → SameOutside lo k x y → lo + k ≤ first_at j → IsErased x j → IsErased y j
  erased-kept j lo k s before erased =
      let same = part-same (first_at j) 68 lo k x y s (inr before) in
      elim erased [ inl zeros ↦ inl (same ∙ zeros) | inr ones ↦ inr (same ∙ ones) ]

  -- a change before the end of the cells
  keep : (lo k : ℕ) → SameOutside lo k x y → lo + k ≤ first_at n → SaysSize y n → StoreWithRoom n top y
  keep lo k s before told = record {
    told = told;
    least = r.least;
    most = r.most;
    room = (let l = s.lengths in let room = r.room in omega arith);
    free = record {
      first = ap is_live (part-same (first_at n) 34 lo k x y s (inr before)) ∙ r.free.first;
      second = ap is_live (part-same (second_at n) 34 lo k x y s (inr (omega arith))) ∙ r.free.second;
    };
    erased = λ j from to. erased-kept j lo k s (omega arith) (r.erased j from to);
    later = λ j from few room. cell-apart x y j lo k s (inr (omega arith)) ∙ r.later j from few (let l = s.lengths in omega arith);
  }

  by-same : y ≡ x → StoreWithRoom n top y
  by-same e = subst (λ (z : List ℕ). StoreWithRoom n top z) (sym e) r

  by-count : (plan : Plan) → ¬ Head n x → PlansCount plan n → CutWithin plan x y → StoreWithRoom n top y
  by-count plan other p cut =
      let room : 32 ≤ length x = (let l = r.room in omega arith) in
      let s = count-same n x room plan p y cut in
      let ends : EndsErased x n = elim r.told.says.sure [ inl head ↦ absurd (other head) | inr e ↦ e ] in
      keep 10 2 s (omega arith) (record { least = r.told.least; most = r.told.most; says = said-beside x y n s r.told.says.head r.told.says.counts ends })

  by-claim : (plan : Plan) (i : ℕ) (c : List ℕ) → i < n → PlansPut plan x i c → CutWithin plan x y → SaysSize y n → StoreWithRoom n top y
  by-claim plan i c below p cut told = keep (first_at i) 68 (put-same plan x i c p y cut) (omega arith) told

  by-grow : (plan : Plan) (c : List ℕ) → length c ≡ 32 → n < top → Head n x → MayGrow x n → PlansGrowth plan n c → CutWithin plan x y → (m : ℕ) × (StoreWithRoom m top y × (n ≤ m))
  by-grow plan c sized few head may p cut =
      let room : twin_size (n + 1) ≤ length x = (let l = may.after.room in omega arith) in
      let most = r.most in
      let s = growth-same n c sized x room plan p y cut in
      let long : twin_size (top + 1) ≤ length y = (let l = s.lengths in let b = r.room in omega arith) in
      let behind : (j : ℕ) → n < j → 10 + (first_at n + 24) ≤ first_at j = λ j from. omega arith in
      elim (growth-cut n c sized x room plan p head may.free (omega arith) r.told.says.counts may.after y cut) [
        | inl old ↦ (
          n,
          (
            record {
              told = record { least = r.told.least; most = r.told.most; says = old.0 };
              least = r.least;
              most = r.most;
              room = long;
              free = old.1;
              erased = λ j from to. erased-kept j 10 (first_at n + 24) s (behind j from) (r.erased j from to);
              later = λ j from far has. elim (cases_eq j n) [
                | inl here ↦ subst (λ i. cell_at y i ≡ None) (sym here) (free-none y n old.1)
                | inr there ↦ cell-apart x y j 10 (first_at n + 24) s (inr (behind j (omega arith))) ∙ r.later j from far (let l = s.lengths in omega arith)
              ];
            },
            omega arith,
          ),
        )
        | inr new ↦ (
          n + 1,
          (
            record {
              told = record { least = (let l = r.told.least in omega arith); most = omega arith; says = new.0 };
              least = omega arith;
              most = r.most;
              room = long;
              free = erased-free y (n + 1) (omega arith) (erased-kept (n + 1) 10 (first_at n + 24) s (behind (n + 1) (omega arith)) (r.erased (n + 1) (omega arith) (omega arith)));
              erased = λ j from to. erased-kept j 10 (first_at n + 24) s (behind j (omega arith)) (r.erased j (omega arith) to);
              later = λ j from far has. cell-apart x y j 10 (first_at n + 24) s (inr (behind j (omega arith))) ∙ r.later j (omega arith) far (let l = s.lengths in omega arith);
            },
            omega arith,
          ),
        )
      ]

abbrev Room : ℕ → ℕ → List ℕ → Type 0
Room n top y = (m : ℕ) × (StoreWithRoom m top y × (n ≤ m))

room-number : (n top : ℕ) (x y : List ℕ) (old plan : Plan) → StoreWithRoom n top x → PlansNumber x old plan → (y ≡ applied plan x) ⊎ CutWithin plan x y → Room n top y
room-number n top x y old plan r p after =
    let same : p.count ≡ n = says-once x p.count n p.told.says r.told.says in (
      n,
      (
        elim p.plans [
          | inl (head, none) ↦ by-same n top x y r (nothing-left old plan x y p.empty none after)
          | inr (other, number) ↦
              let plans : PlansCount plan n = subst (λ m. PlansCount plan m) same number in
              by-count n top x y r plan (λ head. other (subst (λ m. Head m x) (sym same) head)) plans
              (cut-or-none plan x y (count-done n x (let l = r.room in omega arith) plan plans) after)
        ],
        omega arith,
      ),
    )

room-cell : (route : RathonsiRoute) (bound n top : ℕ) (x y : List ℕ) (old plan : Plan) → (route.cell < 270 → route.cell < top) → StoreWithRoom n top x → PlansCell route bound x old plan → (y ≡ applied plan x) ⊎ CutWithin plan x y → Room n top y
room-cell route bound n top x y old plan few r p after =
    let same : p.count ≡ n = says-once x p.count n p.told.says r.told.says in
    let c : List ℕ = bound_cell route.data_id p.direction bound in
    let sized = long_cell route.data_id p.direction bound in
    elim p.plans [
      | inl (other, number) ↦
          let plans : PlansCount plan n = subst (λ m. PlansCount plan m) same number in
          (n, (by-count n top x y r plan (λ head. other (subst (λ m. Head m x) (sym same) head)) plans (cut-or-none plan x y (count-done n x (let l = r.room in omega arith) plan plans) after), omega arith))
      | inr (head, alone, which) ↦ elim which [
        | inl (at, room, may, grows) ↦
            let here : Head n x = subst (λ m. Head m x) same head in
            let next : MayGrow x n = subst (λ m. MayGrow x m) same may in
            let plans : PlansGrowth plan n c = subst (λ m. PlansGrowth plan m c) same grows in
            by-grow n top x y r plan c sized (let f = few (omega arith) in omega arith) here next plans (cut-or-none plan x y (growth-done n c sized x (let l = next.after.room in omega arith) plan plans) after)
        | inr (below, own) ↦ elim own [
          | inl (spare, put) ↦
              let cut = cut-or-none plan x y (put-done plan x route.cell c put) after in
              let t = by-put-told x n r.told y plan route.cell c p.ranges.cell_least (omega arith) (subst (λ m. Head m x) same head) spare put cut in
              (n, (by-claim n top x y r plan route.cell c (omega arith) put cut t, omega arith))
          | inr (kept, none) ↦ (n, (by-same n top x y r (nothing-left old plan x y p.empty none after), omega arith))
        ]
      ]
    ]

pub room-steps : (table : Table) (steps n top : ℕ) (x y : List ℕ) → StoreWithRoom n top x → ((k : ℕ) → (table.route k).cell < 270 → (table.route k).cell < top) → GrowthSteps table steps x y → Room n top y
room-steps table zero n top x y r few e = (n, (subst (λ (z : List ℕ). StoreWithRoom n top z) (sym e) r, omega arith))
room-steps table (suc steps) n top x y r few (z, (s, rest)) =
    let one : Room n top z = elim s.planned [
      | inl number ↦ room-number n top x z s.old s.plan r number s.after
      | inr g ↦ room-cell g.filled (table.first g.which) n top x z s.old s.plan (λ below. let e = g.same.cell in let f = few g.which (omega arith) in omega arith) r g.cell s.after
    ] in
    let more = room-steps table steps one.0 top z y one.1.0 few rest in
    (more.0, (more.1.0, (let a = one.1.1 in let b = more.1.1 in omega arith)))

-- ---- each cell is as it was, or holds the first bound of a route

module _ (table : Table) (which : ℕ) (r : RathonsiRoute) (same : SameRoute (table.route which) r) (x y : List ℕ) (old plan : Plan) (p : PlansCell r (table.first which) x old plan) (after : (y ≡ applied plan x) ⊎ CutWithin plan x y) (j : ℕ) where
  abbrev new : List ℕ
  new = bound_cell r.data_id p.direction (table.first which)

  has-first : j ≡ r.cell → cell_at y r.cell ≡ Some new → HasFirstBound table y j
  has-first here is = record {
    which = which;
    at = sym same.cell ∙ sym here;
    direction = p.direction;
    direction_is = sym same.direction ∙ p.ranges.direction_is;
    is = ap (cell_at y) here ∙ (is ∙ ap (λ id. Some (bound_cell id p.direction (table.first which))) same.data_id);
  }

  first-grown : r.cell ≡ p.count → Head p.count x → MayGrow x p.count → PlansGrowth plan p.count new → (cell_at y j ≡ cell_at x j) ⊎ HasFirstBound table y j
  first-grown at head may grows =
      let n = p.count in
      let sized = long_cell r.data_id p.direction (table.first which) in
      let room : twin_size (n + 1) ≤ length x = (let l = may.after.room in omega arith) in
      let most = p.told.most in
      let cut = cut-or-none plan x y (growth-done n new sized x room plan grows) after in
      elim (cases_eq j n) [
        | inl here ↦ elim (growth-cut n new sized x room plan grows head may.free (omega arith) p.told.says.counts may.after y cut) [
          | inl early ↦ inl (subst (λ i. cell_at y i ≡ cell_at x i) (sym here) (free-none y n early.1 ∙ sym (free-none x n may.free)))
          | inr late ↦ inr (has-first (here ∙ sym at) (ap (cell_at y) at ∙ late.1))
        ]
        | inr there ↦ inl (growth-others n new sized x room plan grows y j cut there)
      ]

  first-claimed : PlansPut plan x r.cell new → (cell_at y j ≡ cell_at x j) ⊎ HasFirstBound table y j
  first-claimed put =
      let l = (cut-leaves plan x y (cut-or-none plan x y (put-done plan x r.cell new put) after)).put r.cell new put in
      elim (cases_eq j r.cell) [
        | inl here ↦ elim l.cell [
          | inl was ↦ inl (subst (λ i. cell_at y i ≡ cell_at x i) (sym here) was)
          | inr is ↦ inr (has-first here is)
        ]
        | inr there ↦ inl (l.others j there)
      ]

  first-cell : (cell_at y j ≡ cell_at x j) ⊎ HasFirstBound table y j
  first-cell = elim p.plans [
    | inl (other, number) ↦
        let room : 32 ≤ length x = (let l = p.told.says.counts.room in omega arith) in
        inl (count-cells p.count x room plan number y j (cut-or-none plan x y (count-done p.count x room plan number) after))
    | inr (head, alone, w) ↦ elim w [
      | inl (at, few, may, grows) ↦ first-grown at head may grows
      | inr (below, own) ↦ elim own [
        | inl (spare, put) ↦ first-claimed put
        | inr (kept, none) ↦ inl (ap (λ (z : List ℕ). cell_at z j) (nothing-left old plan x y p.empty none after))
      ]
    ]
  ]

first-number : (x y : List ℕ) (old plan : Plan) (j : ℕ) → PlansNumber x old plan → (y ≡ applied plan x) ⊎ CutWithin plan x y → cell_at y j ≡ cell_at x j
first-number x y old plan j p after = elim p.plans [
  | inl (head, none) ↦ ap (λ (z : List ℕ). cell_at z j) (nothing-left old plan x y p.empty none after)
  | inr (other, number) ↦
      let room : 32 ≤ length x = (let l = p.told.says.counts.room in omega arith) in
      count-cells p.count x room plan number y j (cut-or-none plan x y (count-done p.count x room plan number) after)
]

pub first-steps : (table : Table) (steps j : ℕ) (x z : List ℕ) → GrowthSteps table steps x z → (cell_at z j ≡ cell_at x j) ⊎ HasFirstBound table z j
first-steps table zero j x z e = inl (ap (λ (w : List ℕ). cell_at w j) e)
first-steps table (suc steps) j x z (y, (s, rest)) =
    let one : (cell_at y j ≡ cell_at x j) ⊎ HasFirstBound table y j = elim s.planned [
      | inl p ↦ inl (first-number x y s.old s.plan j p s.after)
      | inr g ↦ first-cell table g.which g.filled g.same x y s.old s.plan g.cell s.after j
    ] in
    elim (first-steps table steps j y z rest) [
      | inr h ↦ inr h
      | inl e ↦ elim one [
        | inl was ↦ inl (e ∙ was)
        | inr h ↦ inr (record { which = h.which; at = h.at; direction = h.direction; direction_is = h.direction_is; is = e ∙ h.is })
      ]
    ]

-- ---- each call answers OK

pub each-ok : (n top : ℕ) (y : List ℕ) (filled : RathonsiRoute) (direction : Direction) (plan : Plan) (status : ℤ) → StoreWithRoom n top y → filled.cell ≤ n → filled.cell < top → InRanges filled direction → HasOwnCell filled n y
    → IsEmptyPlan plan → GrowAnswers filled y plan status → status ≡ OK
each-ok n top y filled direction plan status r upto below ranges own empty h =
    let most = r.most in
    let long = r.room in
    elim h [
      | inl (full, _) ↦ absurd (full empty)
      | inr (_, a) ↦ elim a [
        | inl (out, _) ↦ absurd (out direction ranges)
        | inr (_, b) ↦ elim b [
          | inl (none, _) ↦ absurd (none (record { most = omega arith; room = omega arith }))
          | inr (_, t) ↦
              let w = tell-only y n (λ answer. (m : ℕ) × (SaysSize y m × NumberAnswers filled y m answer)) status r.told t in
              let same : w.0 ≡ n = says-once y w.0 n w.1.0.says r.told.says in
              number-ok (subst (λ m. NumberAnswers filled y m status) same w.1.1)
        ]
      ]
    ] where
      own-ok : filled.cell < n → OwnAnswers filled y status → status ≡ OK
      own-ok b o = elim o [
        | inl (spare, done) ↦ done
        | inr (not_spare, cell) ↦ elim (own.own b) [
          | inl spare ↦ absurd (not_spare spare)
          | inr (d, (in_ranges, (kept, held))) ↦ elim cell [
            | inl (other, _) ↦ absurd ((other d in_ranges).no_bound kept held)
            | inr (_, more) ↦ elim more [
              | inl (damaged, _) ↦ absurd (damaged_keeps_none y filled.cell filled.data_id d kept damaged held)
              | inr (_, done) ↦ done
            ]
          ]
        ]
      ]

      may : filled.cell ≡ n → MayGrow y n
      may at = record {
        free = r.free;
        after = record {
          room = (let l = r.room in omega arith);
          erased = r.erased (n + 1) (omega arith) (omega arith);
          later = λ j from few has. r.later j (omega arith) few has;
        };
      }

      place-ok : CellPlaceAnswers filled y n status → status ≡ OK
      place-ok p = elim p [
        | inl (b, o) ↦ own-ok b o
        | inr (from, c) ↦ elim c [
          | inl (more, _) ↦ absurd (omega arith)
          | inr (_, d) ↦ elim d [
            | inl (short, _) ↦ (let l = r.room in absurd (omega arith))
            | inr (_, e) ↦ elim e [ inl (none, _) ↦ absurd (none (may (omega arith))) | inr (_, done) ↦ done ]
          ]
        ]
      ]

      number-ok : NumberAnswers filled y n status → status ≡ OK
      number-ok w = elim w [
        | inl (_, done) ↦ done
        | inr (_, c) ↦ elim c [ inl (twice, _) ↦ absurd (own.alone twice) | inr (_, p) ↦ place-ok p ]
      ]

-- ---- the third call

-- the header has the number of cells, and the cell of the route holds something
record Settled (r : RathonsiRoute) (y : List ℕ) : Type 0 where
  count : ℕ
  told : SaysSize y count
  head : Head count y
  below : r.cell < count
  bytes : List ℕ
  is : cell_at y r.cell ≡ Some bytes
  some : bytes ≢ replicate 32 0

-- the header has the number of cells
record Numbered (y : List ℕ) : Type 0 where
  count : ℕ
  told : SaysSize y count
  head : Head count y

module _ (r : RathonsiRoute) (bound : ℕ) (x : List ℕ) (old plan : Plan) (p : PlansCell r bound x old plan) where
  abbrev cell : List ℕ
  cell = bound_cell r.data_id p.direction bound

  settled-grown : Head p.count x → r.cell ≡ p.count → p.count < 270 → MayGrow x p.count → PlansGrowth plan p.count cell → Settled r (applied plan x)
  settled-grown head at few may grows =
      let n = p.count in
      let y = applied plan x in
      let sized = long_cell r.data_id p.direction bound in
      let room : twin_size (n + 1) ≤ length x = (let l = may.after.room in omega arith) in
      let held : cell_at y n ≡ Some cell = growth-cell n cell sized x room plan grows head may.free in
      let least = p.told.least in
      let said : SaysCells y (n + 1) = elim (growth-cut n cell sized x room plan grows head may.free (omega arith) p.told.says.counts may.after y (growth-done n cell sized x room plan grows)) [
        | inl early ↦ absurd (none-some cell (sym (free-none y n early.1) ∙ held))
        | inr late ↦ late.0
      ] in
      record {
        count = n + 1;
        told = record { least = omega arith; most = omega arith; says = said };
        head = growth-head n cell sized x room plan grows head may.free;
        below = omega arith;
        bytes = cell;
        is = ap (cell_at y) at ∙ held;
        some = no_bound_is_zeros r.data_id p.direction bound;
      }

  settled-claimed : Head p.count x → r.cell < p.count → IsSpare x r.cell → PlansPut plan x r.cell cell → Settled r (applied plan x)
  settled-claimed head below spare put = record {
    count = p.count;
    told = by-put-told x p.count p.told (applied plan x) plan r.cell cell p.ranges.cell_least below head spare put (put-done plan x r.cell cell put);
    head = applied-head plan x r.cell cell put ∙ head;
    below = below;
    bytes = cell;
    is = applied-cell plan x r.cell cell put;
    some = no_bound_is_zeros r.data_id p.direction bound;
  }

  settled-there : Head p.count x → r.cell < p.count → (kept : ℕ) → ImageBound x r.cell r.data_id p.direction kept → plan ≡ old → Settled r (applied plan x)
  settled-there head below kept held same =
      let e : applied plan x ≡ x = applied-none plan x (subst (λ (q : Plan). IsEmptyPlan q) (sym same) p.empty) in
      subst (λ (y : List ℕ). Settled r y) (sym e) (record {
        count = p.count;
        told = p.told;
        head = head;
        below = below;
        bytes = held.bytes;
        is = held.is;
        some = λ z. no_bound_is_zeros r.data_id p.direction kept (sym held.holds.cell_is ∙ z);
      })

  -- after a call that doesn't plan the number the cell is there
  then-settled : Head p.count x → Settled r (applied plan x)
  then-settled here = elim p.plans [
    | inl (other, _) ↦ absurd (other here)
    | inr (head, alone, which) ↦ elim which [
      | inl (at, few, may, grows) ↦ settled-grown head at few may grows
      | inr (below, own) ↦ elim own [
        | inl (spare, put) ↦ settled-claimed head below spare put
        | inr ((kept, held), same) ↦ settled-there head below kept held same
      ]
    ]
  ]

  then-numbered : Numbered (applied plan x) ⊎ Settled r (applied plan x)
  then-numbered = elim p.plans [
    | inl (other, number) ↦
        let n = p.count in
        let room : 32 ≤ length x = (let l = p.told.says.counts.room in omega arith) in
        let cut = count-done n x room plan number in
        let ends : EndsErased x n = elim p.told.says.sure [ inl head ↦ absurd (other head) | inr e ↦ e ] in
        inl (record {
          count = n;
          told = record { least = p.told.least; most = p.told.most; says = said-beside x (applied plan x) n (count-same n x room plan number (applied plan x) cut) p.told.says.head p.told.says.counts ends };
          head = count-head n x room plan number p.told.says.head;
        })
    | inr (head, alone, more) ↦ inr (then-settled head)
  ]

  -- if the cell is there, nothing is planned
  settled-plans : Settled r x → plan ≡ old
  settled-plans s =
      let same : p.count ≡ s.count = says-once x p.count s.count p.told.says s.told.says in
      let below = s.below in
      elim p.plans [
        | inl (other, _) ↦ absurd (other (subst (λ m. Head m x) (sym same) s.head))
        | inr (head, alone, which) ↦ elim which [
          | inl (at, few, may, grows) ↦ absurd (omega arith)
          | inr (under, own) ↦ elim own [
            | inl (spare, put) ↦ absurd (s.some (same_Some _ _ (sym s.is ∙ spare)))
            | inr (kept, none) ↦ none
          ]
        ]
      ]

numbered-head : (r : RathonsiRoute) (bound : ℕ) (x : List ℕ) (old plan : Plan) (p : PlansCell r bound x old plan) → Numbered x → Head p.count x
numbered-head r bound x old plan p n = subst (λ m. Head m x) (sym (says-once x p.count n.count p.told.says n.told.says)) n.head

pub third-plans : (r : RathonsiRoute) (bound : ℕ) (x : List ℕ) (a one b two c three : Plan) → PlansCell r bound x a one → PlansCell r bound (applied one x) b two → PlansCell r bound (applied two (applied one x)) c three → three ≡ c
third-plans r bound x a one b two c three p q s =
    let y : List ℕ = applied one x in
    let settled : Settled r (applied two y) = elim (then-numbered r bound x a one p) [
      | inl numbered ↦ then-settled r bound y b two q (numbered-head r bound y b two q numbered)
      | inr here ↦ subst (λ (z : List ℕ). Settled r z) (sym (applied-none two y (subst (λ (w : Plan). IsEmptyPlan w) (sym (settled-plans r bound y b two q here)) q.empty))) here
    ] in
    settled-plans r bound (applied two y) c three s settled

-- a call that plans nothing found the cell
pub nothing-has : (r : RathonsiRoute) (bound : ℕ) (x : List ℕ) (old new : Plan) → PlansCell r bound x old new → new ≡ old
    → (n : ℕ) × (SaysSize x n × Head n x × (r.cell < n) × ((direction : Direction) × ((kept : ℕ) × ImageBound x r.cell r.data_id direction kept)))
nothing-has r bound x old new p same =
    let none : IsEmptyPlan new = subst (λ (q : Plan). IsEmptyPlan q) (sym same) p.empty in
    let no_bytes = none.third in
    elim p.plans [
      | inl (other, number) ↦ (let two = number.third.count in absurd (omega (arith, length-bytes_of 2 p.count)))
      | inr (head, alone, which) ↦ elim which [
        | inl (at, few, may, grows) ↦ (let two = grows.third.count in absurd (omega (arith, length-bytes_of 2 (p.count + 1))))
        | inr (below, own) ↦ elim own [
          | inl (spare, put) ↦ (let one = put.gated.opens.count in absurd (omega arith))
          | inr ((kept, held), _) ↦ (p.count, (p.told, head, below, (p.direction, (kept, held))))
        ]
      ]
    ]
