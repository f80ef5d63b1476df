-- From a bound, or the refusal of one, to the answers of the calls in two steps.
use Rattle.std.proofs.Common.{ℤ, ◌≡◌, ◌≢◌, ℕ, ◌+◌, ◌^◌, ◌≤◌, inl, inr, List, refl, ap, arith}
use Rattle.freshness_routes.specs.declared.routes.Direction.{Direction}
use Rattle.freshness_routes.specs.declared.routes.Direction.TheVariants.{Sends}
use Rattle.store_plan.specs.declared.planning.Plan.{Plan}
use Rattle.rathonsi_c.specs.declared.TheConstants.{OK, EXHAUSTED, RESERVE}
use Rattle.rathonsi_c.specs.declared.route.RathonsiRoute.{RathonsiRoute}
use Rattle.rathonsi_c.specs.declared.refusals.Refusal.{Refusal}
use Rattle.rathonsi_c.specs.declared.refusals.Refusal.TheVariants.{BadValue, WrongCell, Damaged, Key, Exhausted, Reserve}
use Rattle.rathonsi_c.specs.Causes.{IfCause}
use Rattle.rathonsi_c.specs.Images.{ImageBound}
use Rattle.rathonsi_c.specs.Refused.{route_status, BoundRefused}
use Rattle.rathonsi_c.specs.Routes.{InUse, BoundBelow, CounterAnswers, PlanAnswers, status_alone}
use Rattle.rathonsi_c.specs.Steps.{BoundAnswers}
use Rattle.rathonsi_c.proofs.ImageLaws.{bound_once}
use Rattle.rathonsi_c.proofs.AnswerLaws.{damaged_keeps_none}

-- the image keeps no bound of a route in use, whatever the rest says
pub refused_bound : {A : Type 0} (tell : ℤ → A) (r : RathonsiRoute) (d : Direction) (image : List ℕ) (rest : A → Type 0) (refusal : Refusal) → InUse r d → BoundRefused image r.cell r.data_id d refusal → BoundAnswers tell r d image rest (tell (route_status refusal))
refused_bound {A} tell r d image rest BadValue u h = absurd h
refused_bound {A} tell r d image rest WrongCell u h = inr ((λ out. out u), inl (h, refl))
refused_bound {A} tell r d image rest Damaged u h = inr ((λ out. out u), inr ((λ others. others.undamaged h), inl (h, refl)))
refused_bound {A} tell r d image rest (Key refusal) u h = absurd h
refused_bound {A} tell r d image rest Exhausted u h = absurd h
refused_bound {A} tell r d image rest Reserve u h = absurd h

-- it keeps one, and the rest says the answer
pub bounded_rest : {A : Type 0} (tell : ℤ → A) (r : RathonsiRoute) (d : Direction) (image : List ℕ) (bound : ℕ) (rest : A → Type 0) (answer : A) → InUse r d → ImageBound image r.cell r.data_id d bound → rest answer → BoundAnswers tell r d image rest answer
bounded_rest {A} tell r d image bound rest answer u kept says =
    inr ((λ out. out u), inr ((λ others. others.no_bound bound kept), inr ((λ damaged. damaged_keeps_none image r.cell r.data_id d bound damaged kept), says)))

-- an answer whose rest says more
pub weaker_rest : {A : Type 0} (tell : ℤ → A) (r : RathonsiRoute) (d : Direction) (image : List ℕ) (rest other : A → Type 0) (answer : A) → (rest answer → other answer) → BoundAnswers tell r d image rest answer → BoundAnswers tell r d image other answer
weaker_rest {A} tell r d image rest other answer more h = elim h [
  | inl out ↦ inl out
  | inr (in_use, own) ↦ inr (
    in_use,
    elim own [
      | inl others ↦ inl others
      | inr (ours, sound) ↦ inr (
        ours,
        elim sound [
          | inl damaged ↦ inl damaged
          | inr (whole, says) ↦ inr (whole, more says)
        ],
      )
    ],
  )
]

-- the same where a plan is asked for
pub weaker_plan : (r : RathonsiRoute) (image : List ℕ) (plan : Plan) (rest other : ℤ → Type 0) (status : ℤ) → (rest status → other status) → PlanAnswers r image plan rest status → PlanAnswers r image plan other status
weaker_plan r image plan rest other status more h = elim h [
  | inl busy ↦ inl busy
  | inr (empty, known) ↦ inr (
    empty,
    elim known [
      | inl bad ↦ inl bad
      | inr (opened, own) ↦ inr (
        opened,
        elim own [
          | inl others ↦ inl others
          | inr (ours, sound) ↦ inr (
            ours,
            elim sound [
              | inl damaged ↦ inl damaged
              | inr (whole, says) ↦ inr (whole, more says)
            ],
          )
        ],
      )
    ],
  )
]

-- a status told otherwise: the rest says none
pub told_bound : {A : Type 0} (tell : ℤ → A) (r : RathonsiRoute) (d : Direction) (image : List ℕ) (said : ℤ → Type 0) (rest : A → Type 0) (status : ℤ) → (said status → rest (tell status)) → BoundAnswers status_alone r d image said status → BoundAnswers tell r d image rest (tell status)
told_bound {A} tell r d image said rest status more h = elim h [
  | inl (out, e) ↦ inl (out, ap tell e)
  | inr (in_use, own) ↦ inr (
    in_use,
    elim own [
      | inl (others, e) ↦ inl (others, ap tell e)
      | inr (ours, sound) ↦ inr (
        ours,
        elim sound [
          | inl (damaged, e) ↦ inl (damaged, ap tell e)
          | inr (whole, says) ↦ inr (whole, more says)
        ],
      )
    ],
  )
]

-- no freshness to send with, whatever else is asked of one
pub refused_counter : (r : RathonsiRoute) (image : List ℕ) (rest : ℤ → Type 0) (status : ℤ) → (status ≢ OK) × CounterAnswers r image status → IfCause (r.counter + 1 ≡ 2 ^ 64) EXHAUSTED (IfCause (BoundBelow r image Sends (r.counter + 1)) RESERVE rest) status
refused_counter r image rest status (refused, says) = elim says [
  | inl most ↦ inl most
  | inr (fits, later) ↦ inr (
    fits,
    elim later [
      | inl below ↦ inl below
      | inr (covered, done) ↦ absurd (refused done)
    ],
  )
]

-- a bound that covers the next freshness, and the rest says the answer
pub next_rest : (r : RathonsiRoute) (image : List ℕ) (bound : ℕ) (rest : ℤ → Type 0) (status : ℤ) → InUse r Sends → ImageBound image r.cell r.data_id Sends bound → r.counter + 1 ≤ bound → rest status
    → BoundAnswers status_alone r Sends image (IfCause (r.counter + 1 ≡ 2 ^ 64) EXHAUSTED (IfCause (BoundBelow r image Sends (r.counter + 1)) RESERVE rest)) status
next_rest r image bound rest status u kept covers says =
    bounded_rest status_alone r Sends image bound (IfCause (r.counter + 1 ≡ 2 ^ 64) EXHAUSTED (IfCause (BoundBelow r image Sends (r.counter + 1)) RESERVE rest)) status u kept (inr (
      (λ most. let f = kept.holds.bound_fits in omega arith),
      inr ((λ under. let e : under.bound ≡ bound = bound_once image r.cell r.data_id Sends under.bound bound under.kept kept in let l = under.below in omega arith), says),
    ))
