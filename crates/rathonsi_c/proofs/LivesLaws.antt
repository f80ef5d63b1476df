-- Freshness rises over all lives.
use Rattle.std.proofs.Common.{◌≡◌, ◌≢◌, ℕ, ◌^◌, ◌<◌, ◌≤◌, ◌==◌, ◌⊎◌, inl, inr, true, false, if◌then◌else◌, List, [], ◌∷◌, refl, sym, ap, subst, ◌∙◌, arith}
use Rattle.std.proofs.lemmas.Bool.{cases_lt, cases_eq, eq-eqb, ne_eqb, false≢true}
use Rattle.freshness_routes.specs.Changes.{bound_ahead}
use Rattle.freshness_routes.specs.declared.routes.Direction.{Direction}
use Rattle.freshness_routes.specs.declared.routes.Direction.TheVariants.{Receives}
use Rattle.freshness_store.specs.Bound.{bound_cell}
use Rattle.store_plan.specs.declared.planning.Plan.{Plan}
use Rattle.store_plan.specs.Plans.{PlansPut, IsEmptyPlan, applied}
use Rattle.store_plan.specs.Leaving.{LeavesPut}
use Rattle.store_plan.proofs.CallerLemmas.{applied-cell, applied-others, applied-length, applied-none}
use Rattle.rathonsi_c.specs.declared.route.RathonsiRoute.{RathonsiRoute}
use Rattle.rathonsi_c.specs.Images.{ImageBound}
use Rattle.rathonsi_c.specs.Routes.{InRanges, BoundCovers, at_counter, opened_at, Opens, RouteAdvances, Reserves}
use Rattle.rathonsi_c.specs.Lives.{Memory, Deed, sends, accepts, takes, rejoins, opens, sets, reserves, loads, drops, finishes, powers_up, SameRoute, OpensFilled, ChangesRoute, GivesOut, RejoinsRoute, OpensRoute, SetsFields, PlansBound, PlansUpdate, DropsPlan, FinishesPlan, PowerBack, SameRoutes, DoesDeed, Lives, PoweredUp, given_out, rejoins_it, NeverRejoins, RisesTo, CounterCovered}
use Rattle.rathonsi_c.proofs.ImageLaws.{bound_once, same_direction, one_direction, moved_bound, renewed_bound}

-- what is planned: a higher bound of this route, or another cell
pub record Higher (image : List ℕ) (plan : Plan) (r : RathonsiRoute) (d : Direction) (bound : ℕ) : Type 0 where
  pub to : ℕ
  pub above : bound < to
  pub fits : to < 2 ^ 64
  pub plans : PlansPut plan image r.cell (bound_cell r.data_id d to)

pub record Elsewhere (image : List ℕ) (plan : Plan) (cell : ℕ) : Type 0 where
  pub place : ℕ
  pub new : List ℕ
  pub apart : place ≢ cell
  pub plans : PlansPut plan image place new

-- what holds of a route at all times: its counter is at most the bound in the image, and what is planned doesn't lower
-- that
pub record Holds (image : List ℕ) (plan : Plan) (r : RathonsiRoute) : Type 0 where
  pub direction : Direction
  pub ranges : InRanges r direction
  pub bound : ℕ
  pub kept : ImageBound image r.cell r.data_id direction bound
  pub below : r.counter ≤ bound
  pub planned : IsEmptyPlan plan ⊎ (Higher image plan r direction bound ⊎ Elsewhere image plan r.cell)

-- an image keeps a bound that is at least this
pub record AtLeast (low : ℕ) (image : List ℕ) (r : RathonsiRoute) (d : Direction) : Type 0 where
  pub bound : ℕ
  pub kept : ImageBound image r.cell r.data_id d bound
  pub least : low ≤ bound

-- a plan that is done, or cut, doesn't lower the bound
pub after-finish : (image : List ℕ) (plan : Plan) (r : RathonsiRoute) (h : Holds image plan r) → AtLeast h.bound (applied plan image) r h.direction
after-finish image plan r h = elim h.planned [
  | inl none ↦ record { bound = h.bound; kept = subst (λ (y : List ℕ). ImageBound y r.cell r.data_id h.direction h.bound) (sym (applied-none plan image none)) h.kept; least = omega arith }
  | inr some ↦ elim some [
    | inl up ↦ record {
      bound = up.to;
      kept = renewed_bound image (applied plan image) r.cell r.data_id h.direction h.bound up.to (applied-length plan image r.cell _ up.plans) up.fits (applied-cell plan image r.cell _ up.plans) h.kept;
      least = (let u = up.above in omega arith);
    }
    | inr far ↦ record {
      bound = h.bound;
      kept = moved_bound image (applied plan image) r.cell r.data_id h.direction h.bound (applied-length plan image far.place far.new far.plans) (applied-others plan image far.place far.new far.plans r.cell (λ e. far.apart (sym e))) h.kept;
      least = omega arith;
    }
  ]
]

pub after-cut : (image : List ℕ) (plan : Plan) (r : RathonsiRoute) (y : List ℕ) → LeavesPut plan image y → (h : Holds image plan r) → AtLeast h.bound y r h.direction
after-cut image plan r y cut h = elim h.planned [
  | inl none ↦
      let s = cut.none none in
      record { bound = h.bound; kept = moved_bound image y r.cell r.data_id h.direction h.bound s.size (s.cells r.cell) h.kept; least = omega arith }
  | inr some ↦ elim some [
    | inl up ↦ elim (cut.put r.cell _ up.plans).cell [
      | inl old ↦ record {
        bound = h.bound;
        kept = moved_bound image y r.cell r.data_id h.direction h.bound (cut.put r.cell _ up.plans).size old h.kept;
        least = omega arith;
      }
      | inr new ↦ record {
        bound = up.to;
        kept = renewed_bound image y r.cell r.data_id h.direction h.bound up.to (cut.put r.cell _ up.plans).size up.fits new h.kept;
        least = (let u = up.above in omega arith);
      }
    ]
    | inr far ↦ record {
      bound = h.bound;
      kept = moved_bound image y r.cell r.data_id h.direction h.bound (cut.put far.place far.new far.plans).size ((cut.put far.place far.new far.plans).others r.cell (λ e. far.apart (sym e))) h.kept;
      least = omega arith;
    }
  ]
]

-- only the counter of a route changes
pub ranges-counted : (r : RathonsiRoute) (n : ℕ) (d : Direction) → InRanges r d → InRanges (at_counter r n) d
ranges-counted r n d h = record {
  direction_is = h.direction_is;
  cell_least = h.cell_least;
  reserve_least = h.reserve_least;
  reserve_most = h.reserve_most;
  window_is = h.window_is;
  slot_least = h.slot_least;
  slot_most = h.slot_most;
  booted_most = h.booted_most;
  freshness_only_most = h.freshness_only_most;
}

ranges-opened : (r : RathonsiRoute) (n m : ℕ) (d : Direction) → InRanges r d → InRanges (opened_at r n m) d
ranges-opened r n m d h = record {
  direction_is = h.direction_is;
  cell_least = h.cell_least;
  reserve_least = h.reserve_least;
  reserve_most = h.reserve_most;
  window_is = h.window_is;
  slot_least = h.slot_least;
  slot_most = h.slot_most;
  booted_most = h.booted_most;
  freshness_only_most = h.freshness_only_most;
}

pub holds-same : (image y : List ℕ) (plan q : Plan) (r s : RathonsiRoute) → y ≡ image → q ≡ plan → s ≡ r → Holds image plan r → Holds y q s
holds-same image y plan q r s e f g h =
    subst (λ (t : RathonsiRoute). Holds y q t) (sym g) (subst (λ (p : Plan). Holds y p r) (sym f) (subst (λ (z : List ℕ). Holds z plan r) (sym e) h))

-- each step for one route: it stays within what holds, and its counter doesn't fall
pub record Goes (image : List ℕ) (plan : Plan) (r s : RathonsiRoute) : Type 0 where
  pub holds : Holds image plan s
  pub later : r.counter ≤ s.counter

goes-same : (image y : List ℕ) (plan q : Plan) (r s : RathonsiRoute) → y ≡ image → q ≡ plan → s ≡ r → Holds image plan r → Goes y q r s
goes-same image y plan q r s e f g h = record { holds = holds-same image y plan q r s e f g h; later = (let c : s.counter ≡ r.counter = ap (λ (t : RathonsiRoute). t.counter) g in omega arith) }

-- a counter that the bound covers
pub counted_to : (d : Direction) (image : List ℕ) (plan : Plan) (r s : RathonsiRoute) (freshness : ℕ) → Holds image plan r → InRanges r d → BoundCovers r image d freshness → s ≡ at_counter r freshness → Holds image plan s
counted_to d image plan r s freshness h ranges covered now =
    let e : d ≡ h.direction = one_direction r d h.direction ranges h.ranges in
    let same : h.bound ≡ covered.bound = bound_once image r.cell r.data_id d h.bound covered.bound (subst (λ (q : Direction). ImageBound image r.cell r.data_id q h.bound) (sym e) h.kept) covered.kept in
    subst (λ (t : RathonsiRoute). Holds image plan t) (sym now) (record {
      direction = h.direction;
      ranges = ranges-counted r freshness h.direction h.ranges;
      bound = h.bound;
      kept = h.kept;
      below = (let c = covered.covers in omega arith);
      planned = elim h.planned [
        | inl none ↦ inl none
        | inr some ↦ elim some [
          | inl up ↦ inr (inl (record { to = up.to; above = up.above; fits = up.fits; plans = up.plans }))
          | inr far ↦ inr (inr (record { place = far.place; new = far.new; apart = far.apart; plans = far.plans }))
        ]
      ];
    })

advanced : (d : Direction) (image : List ℕ) (plan : Plan) (r s : RathonsiRoute) (freshness : ℕ) → Holds image plan r → RouteAdvances d r image freshness s → Holds image plan s
advanced d image plan r s freshness h a = counted_to d image plan r s freshness h a.ranges a.covered a.now

reserved_here : (image : List ℕ) (plan next : Plan) (r : RathonsiRoute) (freshness : ℕ) → Holds image plan r → Reserves r image freshness plan next → Holds image next r
reserved_here image plan next r freshness h s =
    let e : s.direction ≡ h.direction = one_direction r s.direction h.direction s.ranges h.ranges in
    let same : h.bound ≡ s.bound = bound_once image r.cell r.data_id s.direction h.bound s.bound (subst (λ (q : Direction). ImageBound image r.cell r.data_id q h.bound) (sym e) h.kept) s.kept in
    record {
      direction = h.direction;
      ranges = h.ranges;
      bound = h.bound;
      kept = h.kept;
      below = h.below;
      planned = elim (cases_lt s.bound (bound_ahead r.reserve freshness)) [
        | inl low ↦ inr (inl (record {
          to = bound_ahead r.reserve freshness;
          above = omega arith;
          fits = omega arith;
          plans = subst (λ (q : Direction). PlansPut next image r.cell (bound_cell r.data_id q (bound_ahead r.reserve freshness))) e (s.plans low);
        }))
        | inr high ↦ inl (subst (λ (p : Plan). IsEmptyPlan p) (sym (s.enough high)) s.empty)
      ];
    }

pub planned_elsewhere : (image : List ℕ) (plan next : Plan) (r : RathonsiRoute) (place : ℕ) (new : List ℕ) → place ≢ r.cell → PlansPut next image place new → Holds image plan r → Holds image next r
planned_elsewhere image plan next r place new apart plans h = record {
  direction = h.direction;
  ranges = h.ranges;
  bound = h.bound;
  kept = h.kept;
  below = h.below;
  planned = inr (inr (record { place = place; new = new; apart = apart; plans = plans }));
}

pub planned_nothing : (image : List ℕ) (plan next : Plan) (r : RathonsiRoute) → IsEmptyPlan next → Holds image plan r → Holds image next r
planned_nothing image plan next r empty h = record { direction = h.direction; ranges = h.ranges; bound = h.bound; kept = h.kept; below = h.below; planned = inl empty }

-- another route reserves
pub reserved_there : (image : List ℕ) (plan next : Plan) (that r : RathonsiRoute) (freshness : ℕ) → that.cell ≢ r.cell → Reserves that image freshness plan next → Holds image plan r → Holds image next r
reserved_there image plan next that r freshness apart s h = elim (cases_lt s.bound (bound_ahead that.reserve freshness)) [
  | inl low ↦ planned_elsewhere image plan next r that.cell _ apart (s.plans low) h
  | inr high ↦ planned_nothing image plan next r (subst (λ (p : Plan). IsEmptyPlan p) (sym (s.enough high)) s.empty) h
]

pub finished : (image y : List ℕ) (plan next : Plan) (r : RathonsiRoute) → y ≡ applied plan image → IsEmptyPlan next → Holds image plan r → Holds y next r
finished image y plan next r e empty h =
    let n = after-finish image plan r h in
    record {
      direction = h.direction;
      ranges = h.ranges;
      bound = n.bound;
      kept = subst (λ (z : List ℕ). ImageBound z r.cell r.data_id h.direction n.bound) (sym e) n.kept;
      below = (let b = h.below in let l = n.least in omega arith);
      planned = inl empty;
    }

-- so does what the power left
pub cut_back : (image y : List ℕ) (plan next : Plan) (r : RathonsiRoute) → LeavesPut plan image y → IsEmptyPlan next → Holds image plan r → Holds y next r
cut_back image y plan next r cut empty h =
    let n = after-cut image plan r y cut h in
    record {
      direction = h.direction;
      ranges = h.ranges;
      bound = n.bound;
      kept = n.kept;
      below = (let b = h.below in let l = n.least in omega arith);
      planned = inl empty;
    }

-- what an image keeps of a route, it keeps of each struct of it
pub bound_moves : (image : List ℕ) (r s : RathonsiRoute) (d : Direction) (bound : ℕ) → SameRoute r s → ImageBound image r.cell r.data_id d bound → ImageBound image s.cell s.data_id d bound
bound_moves image r s d bound same kept =
    subst (λ place. ImageBound image place s.data_id d bound) (sym same.cell) (subst (λ id. ImageBound image r.cell id d bound) (sym same.data_id) kept)

bound_back : (image : List ℕ) (r s : RathonsiRoute) (d : Direction) (bound : ℕ) → SameRoute r s → ImageBound image s.cell s.data_id d bound → ImageBound image r.cell r.data_id d bound
bound_back image r s d bound same kept =
    subst (λ place. ImageBound image place r.data_id d bound) same.cell (subst (λ id. ImageBound image s.cell id d bound) same.data_id kept)

-- another struct of the route, whose counter is at most the bound
refilled : (image : List ℕ) (plan : Plan) (r s : RathonsiRoute) (d : Direction) → SameRoute r s → InRanges s d → (h : Holds image plan r) → s.counter ≤ h.bound → Holds image plan s
refilled image plan r s d same ranges h below =
    let e : d ≡ h.direction = same_direction d h.direction (sym ranges.direction_is ∙ (same.direction ∙ h.ranges.direction_is)) in
    record {
      direction = h.direction;
      ranges = subst (λ (q : Direction). InRanges s q) e ranges;
      bound = h.bound;
      kept = bound_moves image r s h.direction h.bound same h.kept;
      below = below;
      planned = elim h.planned [
        | inl none ↦ inl none
        | inr some ↦ elim some [
          | inl up ↦ inr (inl (record {
            to = up.to;
            above = up.above;
            fits = up.fits;
            plans = subst (λ place. PlansPut plan image place (bound_cell s.data_id h.direction up.to)) (sym same.cell) (subst (λ id. PlansPut plan image r.cell (bound_cell id h.direction up.to)) (sym same.data_id) up.plans);
          }))
          | inr far ↦ inr (inr (record { place = far.place; new = far.new; apart = (λ x. far.apart (x ∙ same.cell)); plans = far.plans }))
        ]
      ];
    }

-- it is opened, filled in anew
pub opened_anew : (image : List ℕ) (plan : Plan) (r s : RathonsiRoute) → OpensFilled r image s → Holds image plan r → Goes image plan r s
opened_anew image plan r s o h =
    let f = o.filled in
    let q = o.is_opened in
    let e : q.direction ≡ h.direction = same_direction q.direction h.direction (sym q.ranges.direction_is ∙ (o.same.direction ∙ h.ranges.direction_is)) in
    let same : q.bound ≡ h.bound = bound_once image r.cell r.data_id h.direction q.bound h.bound (bound_back image r f h.direction q.bound o.same (subst (λ (d : Direction). ImageBound image f.cell f.data_id d q.bound) e q.kept)) h.kept in
    subst (λ (t : RathonsiRoute). Goes image plan r t) (sym q.now) (record {
      holds = refilled image plan r (opened_at f q.bound q.mark) q.direction (record { cell = o.same.cell; data_id = o.same.data_id; direction = o.same.direction }) (ranges-opened f q.bound q.mark q.direction q.ranges) h (omega arith);
      later = (let b = h.below in omega arith);
    })

-- ---- all routes

-- what holds of all of them: no two have one cell
pub record Sound (n : ℕ) (a : Memory) : Type 0 where
  pub apart : (j k : ℕ) → j < n → k < n → j ≢ k → (a.routes j).cell ≢ (a.routes k).cell
  pub holds : (k : ℕ) → k < n → Holds a.image a.plan (a.routes k)

-- a deed keeps it, and no cell changes; no counter falls but that of a route that rejoins
pub record Moves (n : ℕ) (deed : Deed) (a b : Memory) : Type 0 where
  pub holds : (k : ℕ) → k < n → Holds b.image b.plan (b.routes k)
  pub later : (k : ℕ) → k < n → rejoins_it k deed ≡ false → (a.routes k).counter ≤ (b.routes k).counter
  pub cells : (k : ℕ) → k < n → (b.routes k).cell ≡ (a.routes k).cell

pub sound-then : (n : ℕ) (deed : Deed) (a b : Memory) → Sound n a → Moves n deed a b → Sound n b
sound-then n deed a b s m = record {
  apart = λ j k x y ne e. s.apart j k x y ne (sym (m.cells j x) ∙ (e ∙ m.cells k y));
  holds = m.holds;
}

-- no counter falls
record Climbs (n : ℕ) (a b : Memory) : Type 0 where
  goes : (k : ℕ) → k < n → Goes b.image b.plan (a.routes k) (b.routes k)
  cells : (k : ℕ) → k < n → (b.routes k).cell ≡ (a.routes k).cell

climbs : (n : ℕ) (deed : Deed) (a b : Memory) → Climbs n a b → Moves n deed a b
climbs n deed a b c = record { holds = λ k x. (c.goes k x).holds; later = λ k x not. (c.goes k x).later; cells = c.cells }

cell_same : (r s : RathonsiRoute) → s ≡ r → s.cell ≡ r.cell
cell_same r s e = ap (λ (t : RathonsiRoute). t.cell) e

-- a deed on route k alone
one_route : (n k : ℕ) (a b : Memory) → Sound n a → ChangesRoute n k a b → Goes a.image a.plan (a.routes k) (b.routes k) → (b.routes k).cell ≡ (a.routes k).cell → Climbs n a b
one_route n k a b s g goes cell = record {
  goes = λ j x. elim (cases_eq j k) [
    | inl here ↦ subst (λ i. Goes b.image b.plan (a.routes i) (b.routes i)) (sym here) (record {
      holds = holds-same a.image b.image a.plan b.plan (b.routes k) (b.routes k) g.image g.plan refl goes.holds;
      later = goes.later;
    })
    | inr there ↦ goes-same a.image b.image a.plan b.plan (a.routes j) (b.routes j) g.image g.plan (g.others j there) (s.holds j x)
  ];
  cells = λ j x. elim (cases_eq j k) [
    | inl here ↦ subst (λ i. (b.routes i).cell ≡ (a.routes i).cell) (sym here) cell
    | inr there ↦ cell_same (a.routes j) (b.routes j) (g.others j there)
  ];
}

gives : (d : Direction) (n k freshness : ℕ) (a b : Memory) → Sound n a → GivesOut d n k freshness a b → Climbs n a b
gives d n k freshness a b s g = one_route n k a b s g.changes (record {
  holds = advanced d a.image a.plan (a.routes k) (b.routes k) freshness (s.holds k g.changes.which) g.advances;
  later = (let u = g.advances.above in let c : (b.routes k).counter ≡ freshness = ap (λ (t : RathonsiRoute). t.counter) g.advances.now in omega arith);
}) (ap (λ (t : RathonsiRoute). t.cell) g.advances.now)

pub opened_cell : (r s : RathonsiRoute) (image : List ℕ) → OpensFilled r image s → s.cell ≡ r.cell
opened_cell r s image o = ap (λ (t : RathonsiRoute). t.cell) o.is_opened.now ∙ o.same.cell

opens_route : (n k : ℕ) (a b : Memory) → Sound n a → OpensRoute n k a b → Climbs n a b
opens_route n k a b s o = one_route n k a b s o.changes (opened_anew a.image a.plan (a.routes k) (b.routes k) o.opened (s.holds k o.changes.which)) (opened_cell (a.routes k) (b.routes k) a.image o.opened)

sets_fields : (n k : ℕ) (a b : Memory) → Sound n a → SetsFields n k a b → Climbs n a b
sets_fields n k a b s p =
    let h = s.holds k p.changes.which in
    one_route n k a b s p.changes (record {
      holds = refilled a.image a.plan (a.routes k) (b.routes k) p.direction p.same p.ranges h (let e = p.counter in let l = h.below in omega arith);
      later = (let e = p.counter in omega arith);
    }) p.same.cell

-- a deed that leaves image and routes, and plans
plans_only : (n : ℕ) (a b : Memory) → b.image ≡ a.image → SameRoutes a b → ((k : ℕ) → k < n → Holds a.image b.plan (a.routes k)) → Climbs n a b
plans_only n a b image routes holds = record {
  goes = λ k x. goes-same a.image b.image b.plan b.plan (a.routes k) (b.routes k) image refl (routes k) (holds k x);
  cells = λ k x. cell_same (a.routes k) (b.routes k) (routes k);
}

plans_bound : (n k : ℕ) (a b : Memory) → Sound n a → PlansBound n k a b → Climbs n a b
plans_bound n k a b s p = plans_only n a b p.image p.routes (λ j x. elim (cases_eq j k) [
  | inl here ↦ subst (λ i. Holds a.image b.plan (a.routes i)) (sym here) (reserved_here a.image a.plan b.plan (a.routes k) p.freshness (s.holds k p.which) p.reserved)
  | inr there ↦ reserved_there a.image a.plan b.plan (a.routes k) (a.routes j) p.freshness (s.apart k j p.which x (λ e. there (sym e))) p.reserved (s.holds j x)
])

plans_update : (n slot : ℕ) (a b : Memory) → Sound n a → PlansUpdate slot a b → Climbs n a b
plans_update n slot a b s p = plans_only n a b p.image p.routes (λ j x.
    let h = s.holds j x in
    let least = h.ranges.cell_least in
    planned_elsewhere a.image a.plan b.plan (a.routes j) p.loaded.update.id _ (λ e. let few = p.loaded.allowed.1.padded.is_update.id_fits in omega arith) p.loaded.plans h)

drops_plan : (n : ℕ) (a b : Memory) → Sound n a → DropsPlan a b → Climbs n a b
drops_plan n a b s p = plans_only n a b p.image p.routes (λ j x. planned_nothing a.image a.plan b.plan (a.routes j) p.empty (s.holds j x))

finishes_plan : (n : ℕ) (a b : Memory) → Sound n a → FinishesPlan a b → Climbs n a b
finishes_plan n a b s p = record {
  goes = λ j x. goes-same b.image b.image b.plan b.plan (a.routes j) (b.routes j) refl refl (p.routes j) (finished a.image b.image a.plan b.plan (a.routes j) p.done.image_is p.done.empty (s.holds j x));
  cells = λ j x. cell_same (a.routes j) (b.routes j) (p.routes j);
}

power_back : (n : ℕ) (a b : Memory) → Sound n a → PowerBack n a b → Climbs n a b
power_back n a b s p = record {
  goes = λ j x. opened_anew b.image b.plan (a.routes j) (b.routes j) (p.opened j x) (cut_back a.image b.image a.plan b.plan (a.routes j) p.left p.empty (s.holds j x));
  cells = λ j x. opened_cell (a.routes j) (b.routes j) b.image (p.opened j x);
}

-- a route rejoins
rejoins_route : (n k counter : ℕ) (a b : Memory) → Sound n a → RejoinsRoute n k counter a b → Moves n (rejoins k counter) a b
rejoins_route n k counter a b s d = record {
  holds = λ j x. elim (cases_eq j k) [
    | inl here ↦ subst (λ i. Holds b.image b.plan (b.routes i)) (sym here)
        (holds-same a.image b.image a.plan b.plan (b.routes k) (b.routes k) d.changes.image d.changes.plan refl
        (counted_to Receives a.image a.plan (a.routes k) (b.routes k) counter (s.holds k d.changes.which) d.rejoined.ranges d.rejoined.covered d.rejoined.now))
    | inr there ↦ holds-same a.image b.image a.plan b.plan (a.routes j) (b.routes j) d.changes.image d.changes.plan (d.changes.others j there) (s.holds j x)
  ];
  later = λ j x not. elim (cases_eq k j) [
    | inl here ↦ absurd (false≢true (sym not ∙ eq-eqb k j here))
    | inr there ↦
        let same : (b.routes j).counter ≡ (a.routes j).counter = ap (λ (t : RathonsiRoute). t.counter) (d.changes.others j (λ e. there (sym e))) in
        omega arith
  ];
  cells = λ j x. elim (cases_eq j k) [
    | inl here ↦ subst (λ i. (b.routes i).cell ≡ (a.routes i).cell) (sym here) (ap (λ (t : RathonsiRoute). t.cell) d.rejoined.now)
    | inr there ↦ cell_same (a.routes j) (b.routes j) (d.changes.others j there)
  ];
}

pub moves : (n : ℕ) (deed : Deed) (a b : Memory) → Sound n a → DoesDeed n deed a b → Moves n deed a b
moves n (sends k freshness) a b s d = climbs n (sends k freshness) a b (gives _ n k freshness a b s d)
moves n (accepts k freshness) a b s d = climbs n (accepts k freshness) a b (gives _ n k freshness a b s d)
moves n (takes k counter) a b s d = climbs n (takes k counter) a b (gives d.0 n k counter a b s d.1)
moves n (rejoins k counter) a b s d = rejoins_route n k counter a b s d
moves n (opens k) a b s d = climbs n (opens k) a b (opens_route n k a b s d)
moves n (sets k) a b s d = climbs n (sets k) a b (sets_fields n k a b s d)
moves n (reserves k) a b s d = climbs n (reserves k) a b (plans_bound n k a b s d)
moves n (loads slot) a b s d = climbs n (loads slot) a b (plans_update n slot a b s d)
moves n drops a b s d = climbs n drops a b (drops_plan n a b s d)
moves n finishes a b s d = climbs n finishes a b (finishes_plan n a b s d)
moves n powers_up a b s d = climbs n powers_up a b (power_back n a b s d)

-- ---- over all deeds

pub lives-sound : (n : ℕ) (deeds : List Deed) (a c : Memory) → Sound n a → Lives n deeds a c → Sound n c
lives-sound n [] a c s lives = subst (λ (m : Memory). Sound n m) (sym lives) s
lives-sound n (deed ∷ deeds) a c s (b, (d, rest)) = lives-sound n deeds b c (sound-then n deed a b s (moves n deed a b s d)) rest

-- a number that is lower will do
pub rises_from : (low high end : ℕ) (xs : List ℕ) → low ≤ high → RisesTo high xs end → RisesTo low xs end
rises_from low high end [] le r = omega arith
rises_from low high end (x ∷ xs) le r = (let l = r.0 in omega arith, r.1)

-- route j gives out one more
given_rises : (n j k freshness end : ℕ) (d : Direction) (deeds : List Deed) (a b : Memory) → k < n → Sound n a → GivesOut d n j freshness a b → RisesTo (b.routes k).counter (given_out k deeds) end
    → RisesTo (a.routes k).counter (if j == k then freshness ∷ given_out k deeds else given_out k deeds) end
given_rises n j k freshness end d deeds a b x s g rest = elim (cases_eq j k) [
  | inl here ↦
      let test : (j == k) ≡ true = eq-eqb j k here in
      let now : (b.routes k).counter ≡ freshness = ap (λ i. (b.routes i).counter) (sym here) ∙ ap (λ (t : RathonsiRoute). t.counter) g.advances.now in
      let was : (a.routes j).counter ≡ (a.routes k).counter = ap (λ i. (a.routes i).counter) here in
      subst (λ t. RisesTo (a.routes k).counter (if t then freshness ∷ given_out k deeds else given_out k deeds) end) (sym test)
      ((let u = g.advances.above in omega arith), subst (λ low. RisesTo low (given_out k deeds) end) now rest)
  | inr there ↦
      let test : (j == k) ≡ false = ne_eqb j k there in
      subst (λ t. RisesTo (a.routes k).counter (if t then freshness ∷ given_out k deeds else given_out k deeds) end) (sym test)
      (rises_from _ _ end (given_out k deeds) ((gives d n j freshness a b s g).goes k x).later rest)
]

-- no other deed lets its counter fall
kept_on : (n k : ℕ) (deed : Deed) (deeds : List Deed) (a b : Memory) (end : ℕ) → k < n → rejoins_it k deed ≡ false → Sound n a → DoesDeed n deed a b → RisesTo (b.routes k).counter (given_out k deeds) end → RisesTo (a.routes k).counter (given_out k deeds) end
kept_on n k deed deeds a b end x not s d rest = rises_from (a.routes k).counter (b.routes k).counter end (given_out k deeds) ((moves n deed a b s d).later k x not) rest

pub sound_on : (n : ℕ) (deed : Deed) (a b : Memory) → Sound n a → DoesDeed n deed a b → Sound n b
sound_on n deed a b s d = sound-then n deed a b s (moves n deed a b s d)

pub rises : (n k : ℕ) (deeds : List Deed) (a c : Memory) → k < n → NeverRejoins k deeds → Sound n a → Lives n deeds a c → RisesTo (a.routes k).counter (given_out k deeds) (c.routes k).counter
rises n k [] a c x never s lives = (let e : (c.routes k).counter ≡ (a.routes k).counter = ap (λ (m : Memory). (m.routes k).counter) lives in omega arith)
rises n k (sends j freshness ∷ deeds) a c x never s (b, (d, rest)) =
    given_rises n j k freshness (c.routes k).counter _ deeds a b x s d (rises n k deeds b c x never.1 (sound_on n (sends j freshness) a b s d) rest)
rises n k (accepts j freshness ∷ deeds) a c x never s (b, (d, rest)) =
    given_rises n j k freshness (c.routes k).counter _ deeds a b x s d (rises n k deeds b c x never.1 (sound_on n (accepts j freshness) a b s d) rest)
rises n k (takes j counter ∷ deeds) a c x never s (b, (d, rest)) =
    kept_on n k (takes j counter) deeds a b (c.routes k).counter x never.0 s d (rises n k deeds b c x never.1 (sound_on n (takes j counter) a b s d) rest)
rises n k (rejoins j counter ∷ deeds) a c x never s (b, (d, rest)) =
    kept_on n k (rejoins j counter) deeds a b (c.routes k).counter x never.0 s d (rises n k deeds b c x never.1 (sound_on n (rejoins j counter) a b s d) rest)
rises n k (opens j ∷ deeds) a c x never s (b, (d, rest)) =
    kept_on n k (opens j) deeds a b (c.routes k).counter x never.0 s d (rises n k deeds b c x never.1 (sound_on n (opens j) a b s d) rest)
rises n k (sets j ∷ deeds) a c x never s (b, (d, rest)) =
    kept_on n k (sets j) deeds a b (c.routes k).counter x never.0 s d (rises n k deeds b c x never.1 (sound_on n (sets j) a b s d) rest)
rises n k (reserves j ∷ deeds) a c x never s (b, (d, rest)) =
    kept_on n k (reserves j) deeds a b (c.routes k).counter x never.0 s d (rises n k deeds b c x never.1 (sound_on n (reserves j) a b s d) rest)
rises n k (loads slot ∷ deeds) a c x never s (b, (d, rest)) =
    kept_on n k (loads slot) deeds a b (c.routes k).counter x never.0 s d (rises n k deeds b c x never.1 (sound_on n (loads slot) a b s d) rest)
rises n k (drops ∷ deeds) a c x never s (b, (d, rest)) =
    kept_on n k drops deeds a b (c.routes k).counter x never.0 s d (rises n k deeds b c x never.1 (sound_on n drops a b s d) rest)
rises n k (finishes ∷ deeds) a c x never s (b, (d, rest)) =
    kept_on n k finishes deeds a b (c.routes k).counter x never.0 s d (rises n k deeds b c x never.1 (sound_on n finishes a b s d) rest)
rises n k (powers_up ∷ deeds) a c x never s (b, (d, rest)) =
    kept_on n k powers_up deeds a b (c.routes k).counter x never.0 s d (rises n k deeds b c x never.1 (sound_on n powers_up a b s d) rest)

-- a route that was opened for the first time, if nothing is planned
pub holds_opened : (image : List ℕ) (plan : Plan) (f r : RathonsiRoute) → IsEmptyPlan plan → Opens f image r → Holds image plan r
holds_opened image plan f r empty o =
    subst (λ (t : RathonsiRoute). Holds image plan t) (sym o.now) (record {
      direction = o.direction;
      ranges = ranges-opened f o.bound o.mark o.direction o.ranges;
      bound = o.bound;
      kept = o.kept;
      below = omega arith;
      planned = inl empty;
    })

-- a caller that was powered up
pub first_sound : (n : ℕ) (a : Memory) → PoweredUp n a → Sound n a
first_sound n a p = record {
  apart = p.apart.cells;
  holds = λ k x. let o = p.opened k x in holds_opened a.image a.plan o.0 (a.routes k) p.empty o.1;
}

pub rises_over_lives : (n : ℕ) (deeds : List Deed) (a c : Memory) → PoweredUp n a → Lives n deeds a c → (k : ℕ) → k < n → NeverRejoins k deeds → RisesTo (a.routes k).counter (given_out k deeds) (c.routes k).counter
rises_over_lives n deeds a c p lives k x never = rises n k deeds a c x never (first_sound n a p) lives

pub covered_over_lives : (n : ℕ) (deeds : List Deed) (a c : Memory) → PoweredUp n a → Lives n deeds a c → (k : ℕ) → k < n → (y : List ℕ) → LeavesPut c.plan c.image y → CounterCovered (c.routes k) y
covered_over_lives n deeds a c p lives k x y cut =
    let h = (lives-sound n deeds a c (first_sound n a p) lives).holds k x in
    let l = after-cut c.image c.plan (c.routes k) y cut h in
    record { direction = h.direction; ranges = h.ranges; bound = l.bound; kept = l.kept; covers = (let b = h.below in let m = l.least in omega arith) }
