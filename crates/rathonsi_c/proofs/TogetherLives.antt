-- Routes that reserve at once do what they do one after the other.
use Rattle.std.proofs.Common.{◌≡◌, ℕ, zero, suc, ◌+◌, ◌*◌, ◌<◌, ◌≤◌, inl, inr, Some, List, [], ◌∷◌, ◌++◌, length, get_or, refl, sym, ap, subst, ◌∙◌, arith}
use Rattle.std.proofs.lemmas.Bool.{cases_eq}
use Rattle.cell_store.specs.Layout.{part}
use Rattle.cell_store.specs.Twin.{cell_at}
use Rattle.freshness_routes.specs.Changes.{bound_ahead}
use Rattle.freshness_routes.specs.declared.routes.Direction.{Direction}
use Rattle.freshness_store.specs.Bound.{bound_cell}
use Rattle.store_plan.specs.declared.planning.Plan.{Plan}
use Rattle.store_plan.specs.Plans.{PlansPut, IsEmptyPlan, applied, no_plan}
use Rattle.store_plan.proofs.CallerLemmas.{applied-cell, applied-others}
use Rattle.rathonsi_c.specs.declared.route.RathonsiRoute.{RathonsiRoute}
use Rattle.rathonsi_c.specs.Routes.{Reserves, at_counter}
use Rattle.rathonsi_c.specs.Lives.{Memory, powers_up, OpensFilled, ChangesRoute, GivesOut, RejoinsRoute, SameRoutes, PlansBound, PowerBack, Lives}
use Rattle.rathonsi_c.specs.Together.{PlansEach, CutTogether, applied_each, PlansHigher, ReservesTogether, reserve_each, AllAmong}
use Rattle.rathonsi_c.proofs.ImageLaws.{moved_bound}
use Rattle.rathonsi_c.proofs.LivesLaws.{ranges-counted}
use Rattle.rathonsi_c.proofs.TogetherLaws.{Owns, Misses, owned_once, part_alike, cell_alike, put_moves, among, within, room, long_applied, applied_beside, cut_long, cut_head, cut_cell, cut_other, each_long, each_out}

-- the plan of a higher bound, over an image in which nothing of the cell changed
bound_moves_on : (r : RathonsiRoute) (d : Direction) (freshness : ℕ) (x z : List ℕ) (plan old : Plan) → PlansHigher r d freshness x plan → IsEmptyPlan old → length z ≡ length x → ((at : ℕ) → Owns r.cell at → get_or z at 0 ≡ get_or x at 0)
    → Reserves r z freshness old plan
bound_moves_on r d freshness x z plan old h empty long same =
    let q = h.reserved in
    let higher = h.higher in
    record {
      empty = empty;
      direction = q.direction;
      ranges = q.ranges;
      opened = q.opened;
      bound = q.bound;
      kept = moved_bound x z r.cell r.data_id q.direction q.bound long (cell_alike x z r.cell long same) q.kept;
      enough = λ e. absurd (omega arith);
      plans = λ low. put_moves plan x z r.cell (bound_cell r.data_id q.direction (bound_ahead r.reserve freshness)) (q.plans low) long same;
    }

-- an empty plan is one of no put
no_put : (plan : Plan) (x : List ℕ) (i : ℕ) (c : List ℕ) → IsEmptyPlan plan → PlansPut plan x i c → ⊥
no_put plan x i c none p = omega (arith, none.third, p.gated.opens.count)

module _ (m n : ℕ) (which : ℕ → ℕ) (a : Memory) (plans : ℕ → Plan) (h : ReservesTogether m n which a plans) where
  abbrev Cell : ℕ → ℕ
  Cell k = (a.routes (which k)).cell

  abbrev New : ℕ → List ℕ
  New k = bound_cell (a.routes (which k)).data_id (h.direction k) (bound_ahead (a.routes (which k)).reserve (h.freshness k))

  pub puts_each : PlansEach n plans a.image (λ k. (a.routes (which k)).cell)
      (λ k. bound_cell (a.routes (which k)).data_id (h.direction k) (bound_ahead (a.routes (which k)).reserve (h.freshness k)))
  puts_each = record {
    puts = λ k lt. let q = h.planned k lt in subst (λ (d : Direction). PlansPut (plans k) a.image (a.routes (which k)).cell (bound_cell (a.routes (which k)).data_id d (bound_ahead (a.routes (which k)).reserve (h.freshness k)))) q.way (q.reserved.plans q.higher);
    apart = h.apart;
  }

  -- after the first k plans, of which some are done
  record Reached (k : ℕ) (c : Memory) : Type 0 where
    empty : IsEmptyPlan c.plan
    routes : SameRoutes a c
    long : length c.image ≡ length a.image
    ahead : (at : ℕ) → ((j : ℕ) → j < k → Misses (Cell j) at) → get_or c.image at 0 ≡ get_or a.image at 0

  start : IsEmptyPlan a.plan → Reached 0 a
  start empty = record { empty = empty; routes = λ j. refl; long = refl; ahead = λ at out. refl }

  abbrev planning : Memory → ℕ → Memory
  planning c k = record { image = c.image; plan = plans k; routes = c.routes }

  abbrev finishing : Memory → ℕ → Memory
  finishing c k = record { image = applied (plans k) c.image; plan = no_plan; routes = c.routes }

  module _ (k : ℕ) (lt : k < n) (c : Memory) (r : Reached k c) where
    untouched : (at : ℕ) → Owns (Cell k) at → get_or c.image at 0 ≡ get_or a.image at 0
    untouched at own = r.ahead at (λ j before. owned_once (Cell k) (Cell j) at own (h.apart k j lt (omega arith) (λ e. omega arith)))

    put_here : PlansPut (plans k) c.image (Cell k) (New k)
    put_here = put_moves (plans k) a.image c.image (Cell k) (New k) (puts_each.puts k lt) r.long untouched

    reserves_here : PlansBound m (which k) c (planning c k)
    reserves_here = record {
      which = h.routes k lt;
      freshness = h.freshness k;
      reserved = subst (λ (s : RathonsiRoute). Reserves s c.image (h.freshness k) c.plan (plans k)) (sym (r.routes (which k)))
          (bound_moves_on (a.routes (which k)) (h.direction k) (h.freshness k) a.image c.image (plans k) c.plan (h.planned k lt) r.empty r.long untouched);
      image = refl;
      routes = λ j. refl;
    }

    has_room : 32 + 68 * Cell k + 68 ≤ length c.image
    has_room = let e = r.long in let f = room n plans a.image Cell New puts_each k lt in omega arith

    goes_on : Reached (k + 1) (finishing c k)
    goes_on = record {
      empty = record { first = refl; second = refl; third = refl };
      routes = r.routes;
      long = long_applied (Cell k) (plans k) (within n plans a.image Cell New puts_each k lt) c.image has_room ∙ r.long;
      ahead = λ at out. applied_beside (Cell k) (plans k) (within n plans a.image Cell New puts_each k lt) c.image has_room at (out k (omega arith)) ∙ r.ahead at (λ j before. out j (omega arith));
    }

    skips : Reached (k + 1) c
    skips = record { empty = r.empty; routes = r.routes; long = r.long; ahead = λ at out. r.ahead at (λ j before. out j (omega arith)) }

  -- ---- the power goes

  module _ (b : Memory) (cut : CutTogether n plans a.image b.image) (none : IsEmptyPlan b.plan) (opened : (j : ℕ) → j < m → OpensFilled (a.routes j) b.image (b.routes j)) where
    abbrev Made : ℕ → Memory → Type 0
    Made k c = (j : ℕ) → j < k → cell_at c.image (Cell j) ≡ cell_at b.image (Cell j)

    cells_back : (c : Memory) → Reached n c → Made n c → (i : ℕ) → cell_at b.image i ≡ cell_at c.image i
    cells_back c r made i = elim (among n Cell i) [
      | inl (k, (lt, is)) ↦ subst (λ j. cell_at b.image j ≡ cell_at c.image j) is (sym (made k lt))
      | inr other ↦ cut_other n plans a.image Cell New puts_each b.image cut i other
          ∙ sym (cell_alike a.image c.image i r.long (λ at own. r.ahead at (λ j before. owned_once i (Cell j) at own (λ e. other j before (sym e)))))
    ]

    head_back : (c : Memory) → Reached n c → part 0 32 b.image ≡ part 0 32 c.image
    head_back c r = cut_head n plans a.image Cell New puts_each b.image cut ∙ sym (part_alike 0 32 a.image c.image r.long (λ at from to. r.ahead at (λ j before. inl (omega arith))))

    back : (c : Memory) → Reached n c → Made n c → PowerBack m c b
    back c r made = record {
      left = record {
        put = λ i bytes q. absurd (no_put c.plan c.image i bytes r.empty q);
        none = λ _. record {
          size = cut_long n plans a.image Cell New puts_each b.image cut ∙ sym r.long;
          head = head_back c r;
          cells = cells_back c r made;
        };
      };
      empty = none;
      opened = λ j lt. subst (λ (s : RathonsiRoute). OpensFilled s b.image (b.routes j)) (sym (r.routes j)) (opened j lt);
    }

    made_old : (k : ℕ) (lt : k < n) (c : Memory) (r : Reached k c) → Made k c → cell_at b.image (Cell k) ≡ cell_at a.image (Cell k) → Made (k + 1) c
    made_old k lt c r made old = λ j below. elim (cases_eq j k) [
      | inl here ↦ subst (λ i. cell_at c.image (Cell i) ≡ cell_at b.image (Cell i)) (sym here) (cell_alike a.image c.image (Cell k) r.long (untouched k lt c r) ∙ sym old)
      | inr there ↦ made j (omega arith)
    ]

    made_new : (k : ℕ) (lt : k < n) (c : Memory) (r : Reached k c) → Made k c → cell_at b.image (Cell k) ≡ Some (New k) → Made (k + 1) (finishing c k)
    made_new k lt c r made new = λ j below. elim (cases_eq j k) [
      | inl here ↦ subst (λ i. cell_at (applied (plans k) c.image) (Cell i) ≡ cell_at b.image (Cell i)) (sym here) (applied-cell (plans k) c.image (Cell k) (New k) (put_here k lt c r) ∙ sym new)
      | inr there ↦
          applied-others (plans k) c.image (Cell k) (New k) (put_here k lt c r) (Cell j) (h.apart j k (omega arith) lt there) ∙ made j (omega arith)
    ]

    abbrev Does : Memory → Type 0
    Does c = (done : List ℕ) × (AllAmong n which done × Lives m (reserve_each done ++ (powers_up ∷ [])) c b)

    one_more : (k : ℕ) (lt : k < n) (c : Memory) (r : Reached k c) → Does (finishing c k) → Does c
    one_more k lt c r rest = (
      which k ∷ rest.0,
      (
        ((k, (lt, refl)), rest.1.0),
        (planning c k, (reserves_here k lt c r, (finishing c k, (record { done = record { image_is = refl; empty = record { first = refl; second = refl; third = refl } }; routes = λ j. refl }, rest.1.1)))),
      ),
    )

    lives_from : (left k : ℕ) (c : Memory) → k + left ≡ n → Reached k c → Made k c → Does c
    lives_from zero k c e r made =
        let same : k ≡ n = omega arith in
        ([], (tt, (b, (back c (subst (λ i. Reached i c) same r) (subst (λ i. Made i c) same made), refl))))
    lives_from (suc left) k c e r made =
        let lt : k < n = omega arith in
        let next : k + 1 + left ≡ n = omega arith in
        elim (cut_cell n plans a.image Cell New puts_each b.image cut k lt) [
          | inl old ↦ lives_from left (k + 1) c next (skips k lt c r) (made_old k lt c r made old)
          | inr new ↦ one_more k lt c r (lives_from left (k + 1) (finishing c k) next (goes_on k lt c r) (made_new k lt c r made new))
        ]

    pub cut_lives : IsEmptyPlan a.plan → (done : List ℕ) × (AllAmong n which done × Lives m (reserve_each done ++ (powers_up ∷ [])) a b)
    cut_lives empty = lives_from n 0 a (omega arith) (start empty) (λ j below. absurd (omega arith))

  -- ---- all plans are done

  -- each is one for the image that the plans before it made
  pub still_reserves : (k : ℕ) (old : Plan) → k < n → IsEmptyPlan old → Reserves (a.routes (which k)) (applied_each k plans a.image) (h.freshness k) old (plans k)
  still_reserves k old lt empty = bound_moves_on (a.routes (which k)) (h.direction k) (h.freshness k) a.image (applied_each k plans a.image) (plans k) old (h.planned k lt) empty
      (each_long n plans a.image Cell New puts_each k (omega arith))
      (λ at own. each_out n plans a.image Cell New puts_each k (omega arith) at (λ j before. owned_once (Cell k) (Cell j) at own (h.apart k j lt (omega arith) (λ e. omega arith))))

  abbrev after : ℕ → Memory
  after k = record { image = applied_each k plans a.image; plan = a.plan; routes = a.routes }

  abbrev between : ℕ → Memory
  between k = record { image = applied_each k plans a.image; plan = plans k; routes = a.routes }

  done_from : IsEmptyPlan a.plan → (left k : ℕ) → k + left ≡ n → (done : List ℕ) × (AllAmong n which done × Lives m (reserve_each done) (after k) (after n))
  done_from empty zero k e = let same : k ≡ n = omega arith in ([], (tt, ap after (sym same)))
  done_from empty (suc left) k e =
      let lt : k < n = omega arith in
      let next : suc k + left ≡ n = omega arith in
      let rest = done_from empty left (suc k) next in (
        which k ∷ rest.0,
        (
          ((k, (lt, refl)), rest.1.0),
          (
            between k,
            (
              record { which = h.routes k lt; freshness = h.freshness k; reserved = still_reserves k a.plan lt empty; image = refl; routes = λ j. refl },
              (after (suc k), (record { done = record { image_is = refl; empty = empty }; routes = λ j. refl }, rest.1.1)),
            ),
          ),
        ),
      )

  pub done_lives : IsEmptyPlan a.plan → (done : List ℕ) × (AllAmong n which done × Lives m (reserve_each done) a (record a { image = applied_each n plans a.image }))
  done_lives empty = done_from empty n 0 (omega arith)

-- ---- what a route gives out meanwhile

counted_higher : (r : RathonsiRoute) (counter : ℕ) (d : Direction) (freshness : ℕ) (x : List ℕ) (plan : Plan) → PlansHigher r d freshness x plan → PlansHigher (at_counter r counter) d freshness x plan
counted_higher r counter d freshness x plan h =
    let q = h.reserved in
    record {
      old = h.old;
      reserved = record {
        empty = q.empty;
        direction = q.direction;
        ranges = ranges-counted r counter q.direction q.ranges;
        opened = record { opened_is = inr refl; check_is = refl };
        bound = q.bound;
        kept = q.kept;
        enough = q.enough;
        plans = q.plans;
      };
      way = h.way;
      higher = h.higher;
    }

counted_meanwhile : (m n k counter : ℕ) (which : ℕ → ℕ) (plans : ℕ → Plan) (a b : Memory) → ReservesTogether m n which a plans → ChangesRoute m k a b → b.routes k ≡ at_counter (a.routes k) counter → ReservesTogether m n which b plans
counted_meanwhile m n k counter which plans a b h changes now =
    let cell : (j : ℕ) → (b.routes j).cell ≡ (a.routes j).cell = λ j. elim (cases_eq j k) [
      | inl here ↦ subst (λ i. (b.routes i).cell ≡ (a.routes i).cell) (sym here) (ap (λ (t : RathonsiRoute). t.cell) now)
      | inr there ↦ ap (λ (t : RathonsiRoute). t.cell) (changes.others j there)
    ] in
    record {
      routes = h.routes;
      apart = λ i j x y ne e. h.apart i j x y ne (sym (cell (which i)) ∙ (e ∙ cell (which j)));
      direction = h.direction;
      freshness = h.freshness;
      planned = λ j x. subst (λ (y : List ℕ). PlansHigher (b.routes (which j)) (h.direction j) (h.freshness j) y (plans j)) (sym changes.image) (elim (cases_eq (which j) k) [
        | inl here ↦
            subst (λ (s : RathonsiRoute). PlansHigher s (h.direction j) (h.freshness j) a.image (plans j)) (sym (subst (λ i. b.routes i ≡ at_counter (a.routes i) counter) (sym here) now))
            (counted_higher (a.routes (which j)) counter (h.direction j) (h.freshness j) a.image (plans j) (h.planned j x))
        | inr there ↦ subst (λ (s : RathonsiRoute). PlansHigher s (h.direction j) (h.freshness j) a.image (plans j)) (sym (changes.others (which j) there)) (h.planned j x)
      ]);
    }

pub given_meanwhile : (d : Direction) (m n k freshness : ℕ) (which : ℕ → ℕ) (plans : ℕ → Plan) (a b : Memory) → ReservesTogether m n which a plans → GivesOut d m k freshness a b → ReservesTogether m n which b plans
given_meanwhile d m n k freshness which plans a b h g = counted_meanwhile m n k freshness which plans a b h g.changes g.advances.now

pub rejoined_meanwhile : (m n k counter : ℕ) (which : ℕ → ℕ) (plans : ℕ → Plan) (a b : Memory) → ReservesTogether m n which a plans → RejoinsRoute m k counter a b → ReservesTogether m n which b plans
rejoined_meanwhile m n k counter which plans a b h j = counted_meanwhile m n k counter which plans a b h j.changes j.rejoined.now
