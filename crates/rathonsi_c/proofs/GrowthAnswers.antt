-- What the calls of a growth answer, by what the cells say.
use Rattle.std.proofs.Common.{ℤ, ◌≡◌, ℕ, ◌<◌, ◌≤◌, ◌⊎◌, inl, inr, List, length, refl, sym, subst, arith}
use Rattle.cell_store.specs.Twin.{twin_size}
use Rattle.freshness_routes.specs.declared.routes.Direction.{Direction}
use Rattle.store_plan.specs.declared.growing.TellFault.TheVariants.{Damaged}
use Rattle.store_plan.specs.Growing.{SaysCells, EndsTooSoon}
use Rattle.store_plan.proofs.CallerLemmas.{any-count, counts-once, says-once}
use Rattle.rathonsi_c.specs.declared.route.RathonsiRoute.{RathonsiRoute}
use Rattle.rathonsi_c.specs.Growing.{SaysSize, TellAnswers, Untold}
use Rattle.rathonsi_c.specs.Images.{IdIsHeld}
use Rattle.rathonsi_c.specs.Routes.{InRanges}
use Rattle.rathonsi_c.specs.Stores.{RouteIdIsHeld}
use Rattle.rathonsi_c.proofs.GrowthLaws.{Head}
use Rattle.rathonsi_c.proofs.ImageLaws.{one_direction}

pub not-soon : (image : List ℕ) (n : ℕ) → SaysCells image n → EndsTooSoon image → ⊥
not-soon image n s (m, (counts, short, other)) =
    let same : m ≡ n = counts-once image m n counts s.counts in
    elim s.sure [
      | inl head ↦ other (subst (λ k. Head k image) (sym same) head)
      | inr e ↦ (let r = e.room in omega arith)
    ]

-- of an image that says a number the rest says it
pub tell-says : (image : List ℕ) (n : ℕ) (rest : ℤ → Type 0) (status : ℤ) → SaysSize image n → rest status → TellAnswers image rest status
tell-says image n rest status told says =
    let room = told.says.counts.room in
    let least = told.least in
    inr (
      (λ short. omega arith),
      inr ((λ none. none (any-count n 1 image (omega arith) told.says.head)), inr ((λ soon. not-soon image n told.says soon), inr ((λ none. none n told), says))),
    )

-- one that says none has the same answer, whatever the rest says
pub tell-none : (image : List ℕ) (rest : ℤ → Type 0) (status : ℤ) → TellAnswers image (λ _. ⊥) status → TellAnswers image rest status
tell-none image rest status h = elim h [
  | inl short ↦ inl short
  | inr (long, more) ↦ inr (
    long,
    elim more [
      | inl none ↦ inl none
      | inr (head, cells) ↦ inr (
        head,
        elim cells [
          | inl soon ↦ inl soon
          | inr (whole, last) ↦ inr (whole, elim last [ inl damaged ↦ inl damaged | inr (said, nothing) ↦ absurd nothing ])
        ],
      )
    ],
  )
]

-- a number that no store has
pub tell-range : (image : List ℕ) (n : ℕ) → twin_size 14 ≤ length image → SaysCells image n → (n < 14) ⊎ (270 < n) → Untold image Damaged
tell-range image n room says out =
    inr (
      (λ short. omega arith),
      inr (
        (λ none. none (any-count n 1 image (omega arith) says.head)),
        inr (
          (λ soon. not-soon image n says soon),
          inl (
            (λ m t.
                let same : m ≡ n = says-once image m n t.says says in
                let least = t.least in
                let most = t.most in
                elim out [ inl few ↦ omega arith | inr many ↦ omega arith ]),
            refl,
          ),
        ),
      ),
    )

-- a route of which no other cell has the Data ID and direction
pub alone : (r : RathonsiRoute) (image : List ℕ) (n : ℕ) (d : Direction) → InRanges r d → (IdIsHeld image n r.cell r.data_id d → ⊥) → RouteIdIsHeld r image n → ⊥
alone r image n d ranges none h = none (subst (λ (e : Direction). IdIsHeld image n r.cell r.data_id e) (one_direction r h.0 d h.1.0 ranges) h.1.1)
