-- What the calls of a freshness manager answer, and what they make a device write.
use Rattle.std.proofs.Common.{ℤ, ◌≡◌, ◌⊎◌, ℕ, zero, suc, ◌+◌, ◌*◌, ◌%◌, ◌^◌, ◌<◌, ◌≤◌, ◌-◌, inl, inr, List, refl, sym, subst, ◌∙◌, arith}
use Rattle.std.proofs.lemmas.Bool.{cases_lt}
use Rattle.std.proofs.lemmas.Nat.{pow_pos}
use Rattle.std.proofs.Math.Nat.{mod-lt}
use Rattle.freshness_routes.specs.Changes.{bound_ahead}
use Rattle.freshness_routes.specs.declared.routes.Direction.{Direction}
use Rattle.freshness_routes.specs.declared.routes.Direction.TheVariants.{Sends, Receives}
use Rattle.freshness_store.specs.Bound.{bound_cell}
use Rattle.secured_pdu.specs.Frame.{AheadWithBits, TakesBits}
use Rattle.secured_pdu.proofs.CallerLemmas.{same_from_AheadWithBits}
use Rattle.store_plan.specs.declared.planning.Plan.{Plan}
use Rattle.store_plan.specs.Plans.{PlansPut, IsEmptyPlan, applied}
use Rattle.store_plan.proofs.CallerLemmas.{applied-cell, applied-length, applied-none}
use Rattle.rathonsi_c.specs.declared.TheConstants.{OK, BAD_VALUE, WRONG_CELL, DAMAGED, FRESHNESS_FAILURE, RESERVE}
use Rattle.rathonsi_c.specs.declared.route.RathonsiRoute.{RathonsiRoute}
use Rattle.rathonsi_c.specs.Causes.{IfCause, IsDone}
use Rattle.rathonsi_c.specs.Images.{ImageBound}
use Rattle.rathonsi_c.specs.Routes.{InRanges, IsFreshnessOnly, InUse, BoundCovers, BoundBelow, Reserves, CounterAnswers, status_alone}
use Rattle.rathonsi_c.specs.Steps.{BoundAnswers}
use Rattle.rathonsi_c.specs.Lives.{PlanDone}
use Rattle.rathonsi_c.specs.Freshness.{WithinWindow, AheadOfBound, NextAnswers, CandidateAnswers, AcceptAnswers, CandidateWrites}
use Rattle.rathonsi_c.proofs.ImageLaws.{bound_once, one_direction, renewed_bound}
use Rattle.rathonsi_c.proofs.AnswerLaws.{other_status, damaged_keeps_none}
use Rattle.rathonsi_c.proofs.FreshnessLaws.{covered_here}

-- of a route in use whose image keeps a bound the rest says the answer
pub says_rest : {A : Type 0} (tell : ℤ → A) (r : RathonsiRoute) (d : Direction) (image : List ℕ) (bound : ℕ) (rest : A → Type 0) (answer : A) → InUse r d → ImageBound image r.cell r.data_id d bound → BoundAnswers tell r d image rest answer → rest answer
says_rest {A} tell r d image bound rest answer u kept h = elim h [
  | inl (out, _) ↦ absurd (out u)
  | inr (_, own) ↦ elim own [
    | inl (others, _) ↦ absurd (others.no_bound bound kept)
    | inr (_, sound) ↦ elim sound [
      | inl (damaged, _) ↦ absurd (damaged_keeps_none image r.cell r.data_id d bound damaged kept)
      | inr (_, says) ↦ says
    ]
  ]
]

-- ---- a candidate

honest : (c w b v : ℕ) → WithinWindow c w v → v < 2 ^ 64 → AheadWithBits c w b (v % 2 ^ b) v
honest c w b v within fits = record { above = within.above; near = within.near; low_is = refl; fits = fits }

pub honest_found : (c w b v told : ℕ) → w ≤ 2 ^ b → WithinWindow c w v → v < 2 ^ 64 → AheadWithBits c w b (v % 2 ^ b) told → told ≡ v
honest_found c w b v told small within fits x = same_from_AheadWithBits c w b (v % 2 ^ b) told v small x (honest c w b v within fits)

takes_low : (w b v : ℕ) → 1 ≤ b → b ≤ 64 → w ≤ 2 ^ b → TakesBits w b (v % 2 ^ b)
takes_low w b v least most small = record { bits_least = least; bits_most = most; truncated_fits = mod-lt v (pow_pos b); window_fits = small }

pub honest_answered : (r : RathonsiRoute) (image : List ℕ) (b v bound : ℕ) (status : ℤ) → IsFreshnessOnly r → InUse r Receives → ImageBound image r.cell r.data_id Receives bound → 1 ≤ b → b ≤ 64 → r.window ≤ 2 ^ b → WithinWindow r.counter r.window v → v < 2 ^ 64
    → CandidateAnswers r image (v % 2 ^ b) b status → (v ≤ bound → status ≡ OK) × (bound < v → status ≡ RESERVE)
honest_answered r image b v bound status only u kept least most small within fits h = elim h [
  | inl (other, _) ↦ absurd (other only)
  | inr (_, asked) ↦ elim asked [
    | inl (other, _) ↦ absurd (other (takes_low r.window b v least most small))
    | inr (_, bounded) ↦ elim (says_rest status_alone r Receives image bound (IfCause ((freshness : ℕ) → ¬ AheadWithBits r.counter r.window b (v % 2 ^ b) freshness) FRESHNESS_FAILURE (IfCause (AheadOfBound r image b (v % 2 ^ b)) RESERVE IsDone)) status u kept bounded) [
      | inl (none, _) ↦ absurd (none v (honest r.counter r.window b v within fits))
      | inr (_, told) ↦ elim told [
        | inl (over, e) ↦
            let same : over.freshness ≡ v = honest_found r.counter r.window b v over.freshness small within fits over.ahead in
            let here : over.below.bound ≡ bound = bound_once image r.cell r.data_id Receives over.below.bound bound over.below.kept kept in
            let under = over.below.below in
            ((λ covers. absurd (omega (arith, same, here, under, covers))), (λ below. e))
        | inr (covered, done) ↦ (
          (λ covers. done),
          (λ below. absurd (covered (record {
            freshness = v;
            ahead = honest r.counter r.window b v within fits;
            below = record { bound = bound; kept = kept; below = below };
          }))),
        )
      ]
    ]
  ]
]

pub honest_accepted : (r : RathonsiRoute) (image : List ℕ) (v : ℕ) (status : ℤ) → IsFreshnessOnly r → InUse r Receives → BoundCovers r image Receives v → WithinWindow r.counter r.window v → AcceptAnswers r image v status → status ≡ OK
honest_accepted r image v status only u covered within h = elim h [
  | inl (other, _) ↦ absurd (other only)
  | inr (_, bounded) ↦ elim (says_rest status_alone r Receives image covered.bound (IfCause (¬ WithinWindow r.counter r.window v) FRESHNESS_FAILURE (IfCause (BoundBelow r image Receives v) RESERVE IsDone)) status u covered.kept bounded) [
    | inl (out, _) ↦ absurd (out within)
    | inr (_, told) ↦ elim told [
      | inl (under, _) ↦ absurd (covered_here r image Receives covered.bound v covered.kept covered.covers under)
      | inr (_, done) ↦ done
    ]
  ]
]

-- ---- a reserve

pub reserved_covers : (r : RathonsiRoute) (image next : List ℕ) (d : Direction) (v : ℕ) (old plan emptied : Plan) → InUse r d → v < 2 ^ 64 → Reserves r image v old plan → PlanDone image plan next emptied → BoundCovers r next d v
reserved_covers r image next d v old plan emptied u fits s done =
    let e : s.direction ≡ d = one_direction r s.direction d s.ranges u.ranges in
    let kept : ImageBound image r.cell r.data_id d s.bound = subst (λ (q : Direction). ImageBound image r.cell r.data_id q s.bound) e s.kept in
    let least = u.ranges.reserve_least in
    let high : v ≤ bound_ahead r.reserve v = omega (arith, fits, least) in
    elim (cases_lt s.bound (bound_ahead r.reserve v)) [
      | inl low ↦
          let plans : PlansPut plan image r.cell (bound_cell r.data_id d (bound_ahead r.reserve v)) = subst (λ (q : Direction). PlansPut plan image r.cell (bound_cell r.data_id q (bound_ahead r.reserve v))) e (s.plans low) in
          record {
            bound = bound_ahead r.reserve v;
            kept = subst (λ (y : List ℕ). ImageBound y r.cell r.data_id d (bound_ahead r.reserve v)) (sym done.image_is)
                (renewed_bound image (applied plan image) r.cell r.data_id d s.bound (bound_ahead r.reserve v) (applied-length plan image r.cell _ plans) (omega arith) (applied-cell plan image r.cell _ plans) kept);
            covers = high;
          }
      | inr enough ↦
          let same : next ≡ image = done.image_is ∙ applied-none plan image (subst (λ (p : Plan). IsEmptyPlan p) (sym (s.enough enough)) s.empty) in
          record {
            bound = s.bound;
            kept = subst (λ (y : List ℕ). ImageBound y r.cell r.data_id d s.bound) (sym same) kept;
            covers = omega (arith, high, enough);
          }
    ]

pub next_given : (r : RathonsiRoute) (image : List ℕ) (status : ℤ) → IsFreshnessOnly r → InUse r Sends → BoundCovers r image Sends (r.counter + 1) → NextAnswers r image status → status ≡ OK
next_given r image status only u covered h = elim h [
  | inl (other, _) ↦ absurd (other only)
  | inr (_, bounded) ↦ elim (says_rest status_alone r Sends image covered.bound (CounterAnswers r image) status u covered.kept bounded) [
    | inl (most, _) ↦ (let f = covered.kept.holds.bound_fits in let c = covered.covers in absurd (omega (arith, most, f, c)))
    | inr (_, told) ↦ elim told [
      | inl (under, _) ↦ absurd (covered_here r image Sends covered.bound (r.counter + 1) covered.kept covered.covers under)
      | inr (_, done) ↦ done
    ]
  ]
]

-- ---- writes

-- a candidate that is to be reserved is above the bound
asked_above : (r : RathonsiRoute) (image : List ℕ) (t b bound v : ℕ) → ImageBound image r.cell r.data_id Receives bound → CandidateAnswers r image t b RESERVE → AheadWithBits r.counter r.window b t v → bound < v
asked_above r image t b bound v kept h x = elim h [
  | inl (_, e) ↦ absurd (other_status RESERVE BAD_VALUE (λ n. omega arith) e)
  | inr (_, asked) ↦ elim asked [
    | inl (_, e) ↦ absurd (other_status RESERVE BAD_VALUE (λ n. omega arith) e)
    | inr (takes, bounded) ↦ elim bounded [
      | inl (_, e) ↦ absurd (other_status RESERVE BAD_VALUE (λ n. omega arith) e)
      | inr (_, own) ↦ elim own [
        | inl (_, e) ↦ absurd (other_status RESERVE WRONG_CELL (λ n. omega arith) e)
        | inr (_, sound) ↦ elim sound [
          | inl (_, e) ↦ absurd (other_status RESERVE DAMAGED (λ n. omega arith) e)
          | inr (_, says) ↦ elim says [
            | inl (_, e) ↦ absurd (other_status RESERVE FRESHNESS_FAILURE (λ n. omega arith) e)
            | inr (_, told) ↦ elim told [
              | inr (_, e) ↦ absurd (other_status RESERVE OK (λ n. omega arith) e)
              | inl (over, _) ↦
                  let here : over.below.bound ≡ bound = bound_once image r.cell r.data_id Receives over.below.bound bound over.below.kept kept in
                  let under = over.below.below in
                  elim (cases_lt bound v) [
                    | inl less ↦ less
                    | inr more ↦ absurd (takes (λ takes_bits.
                        let same : over.freshness ≡ v = same_from_AheadWithBits r.counter r.window b t over.freshness v takes_bits.window_fits over.ahead x in
                        absurd (omega (arith, same, here, under, more))))
                  ]
            ]
          ]
        ]
      ]
    ]
  ]
]

-- the bound that a reserve leaves, if the one before it is lower
pub reserved_bound : (r : RathonsiRoute) (image next : List ℕ) (bound v : ℕ) (old plan emptied : Plan) → InRanges r Receives → ImageBound image r.cell r.data_id Receives bound → bound < v → v < 2 ^ 64 → Reserves r image v old plan → PlanDone image plan next emptied → ImageBound next r.cell r.data_id Receives (bound_ahead r.reserve v)
reserved_bound r image next bound v old plan emptied u kept below fits s done =
    let e : s.direction ≡ Receives = one_direction r s.direction Receives s.ranges u in
    let same : s.bound ≡ bound = bound_once image r.cell r.data_id Receives s.bound bound (subst (λ (q : Direction). ImageBound image r.cell r.data_id q s.bound) e s.kept) kept in
    let least = u.reserve_least in
    let low : s.bound < bound_ahead r.reserve v = omega (arith, same, below, fits, least) in
    let plans : PlansPut plan image r.cell (bound_cell r.data_id Receives (bound_ahead r.reserve v)) = subst (λ (q : Direction). PlansPut plan image r.cell (bound_cell r.data_id q (bound_ahead r.reserve v))) e (s.plans low) in
    subst (λ (y : List ℕ). ImageBound y r.cell r.data_id Receives (bound_ahead r.reserve v)) (sym done.image_is)
    (renewed_bound image (applied plan image) r.cell r.data_id Receives bound (bound_ahead r.reserve v) (applied-length plan image r.cell _ plans) (omega arith) (applied-cell plan image r.cell _ plans) kept)

-- each write takes the bound up by a reserve, or to the last freshness
few : (n x bound : ℕ) (r : RathonsiRoute) (image : List ℕ) → InUse r Receives → ImageBound image r.cell r.data_id Receives bound → (x + r.counter ≤ bound) ⊎ (18446744073709551615 ≤ bound) → x < r.window + r.reserve → CandidateWrites n r image → x + n * r.reserve < r.window + r.reserve
few zero x bound r image u kept room small writes = omega (arith, small)
few (suc n) x bound r image u kept room small (next, (w, (later, (keeps, rest)))) =
    let v = w.freshness in
    let fits = w.ahead.fits in
    let near = w.ahead.near in
    let least = u.ranges.reserve_least in
    let above : bound < w.freshness = asked_above r image w.truncated w.bits bound w.freshness kept w.answer w.ahead in
    let l = keeps (bound_ahead r.reserve w.freshness) (reserved_bound r image next bound w.freshness w.old w.plan w.emptied u.ranges kept above fits w.reserved w.done) in
    let high = l.covers in
    let under : x + r.counter ≤ bound = elim room [ inl low ↦ low | inr full ↦ absurd (omega (arith, above, fits, full)) ] in
    let more : (x + r.reserve + r.counter ≤ l.bound) ⊎ (18446744073709551615 ≤ l.bound) = elim (cases_lt (w.freshness + r.reserve - 1) 18446744073709551616) [
      | inl whole ↦ inl (omega (arith, under, above, high, whole, least))
      | inr over ↦ inr (omega (arith, high, over))
    ] in
    let rest_small : x + r.reserve + n * r.reserve < r.window + r.reserve = few n (x + r.reserve) l.bound r later u l.kept more (omega (arith, under, above, near)) rest in
    omega (arith, rest_small)

pub few_writes : (n : ℕ) (r : RathonsiRoute) (image : List ℕ) (bound : ℕ) → InUse r Receives → ImageBound image r.cell r.data_id Receives bound → r.counter ≤ bound → CandidateWrites n r image → n * r.reserve < r.window + r.reserve
few_writes n r image bound u kept below writes =
    let least = u.ranges.reserve_least in
    let f : 0 + n * r.reserve < r.window + r.reserve = few n 0 bound r image u kept (inl (omega (arith, below))) (omega (arith, least)) writes in
    omega (arith, f)
