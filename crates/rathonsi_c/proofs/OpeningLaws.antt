-- What opening all routes of a unit comes to.
use Rattle.std.proofs.Common.{ℤ, ◌≡◌, ◌≢◌, ℕ, ◌+◌, ◌<◌, ◌≤◌, ◌⊎◌, inl, inr, List, length, take, set, get_or, sym, ap, subst, ◌∙◌, arith}
use Rattle.std.proofs.lemmas.Bool.{cases_lt}
use Rattle.std.proofs.lemmas.List.{get_or-take, get_or-set_same, get_or-set_other, length-take-le, get_or_default}
use Rattle.rathonsi_c.specs.declared.TheConstants.{OK, BAD_VALUE, DAMAGED, WRONG_CELL}
use Rattle.rathonsi_c.specs.declared.route.RathonsiRoute.{RathonsiRoute}
use Rattle.rathonsi_c.specs.Routes.{OutOfRanges, OpenAnswers, Opens}
use Rattle.rathonsi_c.specs.Opening.{blank_route, route_of, IsApartFrom, RouteOpens, OpensAt, AllOpen, OpensEach}
use Rattle.rathonsi_c.specs.Lives.{Apart}
use Rattle.rathonsi_c.proofs.AnswerLaws.{other_status}

-- a route that may be opened is opened
pub opens_then : (r : RathonsiRoute) (before : List RathonsiRoute) (image : List ℕ) (status : ℤ) → RouteOpens r before image OK → OpenAnswers r image status → status ≡ OK
opens_then r before image status may answers = elim may [
  | inl (_, e) ↦ absurd (other_status OK BAD_VALUE (λ x. omega arith) e)
  | inr (fits, own) ↦ elim own [
    | inl (_, e) ↦ absurd (other_status OK WRONG_CELL (λ x. omega arith) e)
    | inr (ours, whole) ↦ elim whole [
      | inl (_, e) ↦ absurd (other_status OK DAMAGED (λ x. omega arith) e)
      | inr (sound, _) ↦ elim answers [
        | inl (out, _) ↦ absurd (fits (inl out))
        | inr (_, rest) ↦ elim rest [
          | inl (theirs, _) ↦ absurd (ours theirs)
          | inr (_, cell) ↦ elim cell [
            | inl (damaged, _) ↦ absurd (sound damaged)
            | inr (_, done) ↦ done
          ]
        ]
      ]
    ]
  ]
]

-- a route as the code read it, by whichever default
pub opens_at_read : (routes : List RathonsiRoute) (image : List ℕ) (k : ℕ) (d : RathonsiRoute) (status : ℤ) → k < length routes → RouteOpens (get_or routes k d) (take k routes) image status → OpensAt routes image k status
opens_at_read routes image k d status below h =
    subst (λ (r : RathonsiRoute). RouteOpens r (take k routes) image status) (get_or_default routes k d blank_route below) h

-- of routes that may all be opened, one more is
pub opens_next : (routes now : List RathonsiRoute) (image : List ℕ) (k : ℕ) (d new : RathonsiRoute) (status : ℤ) → k < length now → OpensAt routes image k OK
    → ((i : ℕ) → i < k → Opens (route_of routes i) image (route_of now i)) → ((i : ℕ) → k ≤ i → route_of now i ≡ route_of routes i)
    → OpenAnswers (get_or now k d) image status → (status ≡ OK → Opens (get_or now k d) image new)
    → (i : ℕ) → i < k + 1 → Opens (route_of routes i) image (route_of (set now k new) i)
opens_next routes now image k d new status within may opened rest answer opens i x = elim (cases_lt i k) [
  | inl below ↦ subst (λ (r : RathonsiRoute). Opens (route_of routes i) image r) (sym (get_or-set_other now k i new blank_route (λ e. omega arith))) (opened i below)
  | inr from ↦
      let e : i ≡ k = omega arith in
      let old : get_or now k d ≡ route_of routes k = get_or_default now k d blank_route within ∙ rest k (omega arith) in
      let done = opens_then (route_of routes k) (take k routes) image status may (subst (λ (r : RathonsiRoute). OpenAnswers r image status) old answer) in
      let o : Opens (route_of routes k) image new = subst (λ (r : RathonsiRoute). Opens r image new) old (opens done) in
      subst (λ j. Opens (route_of routes j) image (route_of (set now k new) j)) (sym e)
      (subst (λ (r : RathonsiRoute). Opens (route_of routes k) image r) (sym (get_or-set_same now k new blank_route within)) o)
]

pub rest_next : (routes now : List RathonsiRoute) (k : ℕ) (new : RathonsiRoute) → ((i : ℕ) → k ≤ i → route_of now i ≡ route_of routes i)
    → (i : ℕ) → k + 1 ≤ i → route_of (set now k new) i ≡ route_of routes i
rest_next routes now k new rest i x = get_or-set_other now k i new blank_route (λ e. omega arith) ∙ rest i (omega arith)

module _ (routes : List RathonsiRoute) (image : List ℕ) where
  fits_beside : (k : ℕ) → OpensAt routes image k OK → (OutOfRanges (route_of routes k) ⊎ (¬ IsApartFrom (route_of routes k) (take k routes))) → ⊥
  fits_beside k may bad = elim may [
    | inl (_, e) ↦ other_status OK BAD_VALUE (λ x. omega arith) e
    | inr (fits, _) ↦ fits bad
  ]

  earlier : (j k : ℕ) → j < k → route_of (take k routes) j ≡ route_of routes j
  earlier j k below = get_or-take k routes j blank_route below

  among : (j k : ℕ) → j < k → k < length routes → j < length (take k routes)
  among j k below within = omega (arith, length-take-le k routes (omega arith))

  other_cell : (j k : ℕ) → j < k → k < length routes → OpensAt routes image k OK → (route_of routes j).cell ≢ (route_of routes k).cell
  other_cell j k below within may e =
      fits_beside k may (inr (λ apart. (apart j (among j k below within)).cells (ap (λ (r : RathonsiRoute). r.cell) (earlier j k below) ∙ e)))

  other_id : (j k : ℕ) → j < k → k < length routes → OpensAt routes image k OK → (route_of routes j).data_id ≡ (route_of routes k).data_id → (route_of routes j).direction ≢ (route_of routes k).direction
  other_id j k below within may e f =
      fits_beside k may (inr (λ apart. (apart j (among j k below within)).ids (ap (λ (r : RathonsiRoute). r.data_id) (earlier j k below) ∙ e) (ap (λ (r : RathonsiRoute). r.direction) (earlier j k below) ∙ f)))

  -- routes that may all be opened are apart once they are
  pub apart_when_opened : (opened : List RathonsiRoute) → AllOpen routes image → OpensEach routes image opened → Apart (length opened) (route_of opened)
  apart_when_opened opened may each =
      let cell : (k : ℕ) → k < length routes → (route_of opened k).cell ≡ (route_of routes k).cell = λ k x. ap (λ (r : RathonsiRoute). r.cell) (each.each k x).now in
      let id : (k : ℕ) → k < length routes → (route_of opened k).data_id ≡ (route_of routes k).data_id = λ k x. ap (λ (r : RathonsiRoute). r.data_id) (each.each k x).now in
      let way : (k : ℕ) → k < length routes → (route_of opened k).direction ≡ (route_of routes k).direction = λ k x. ap (λ (r : RathonsiRoute). r.direction) (each.each k x).now in
      let within : (k : ℕ) → k < length opened → k < length routes = λ k x. (let c = each.count in omega arith) in
      record {
        cells = λ j k x y ne e.
            let same = sym (cell j (within j x)) ∙ (e ∙ cell k (within k y)) in
            elim (cases_lt j k) [
              | inl below ↦ other_cell j k below (within k y) (may k (within k y)) same
              | inr from ↦ other_cell k j (omega arith) (within j x) (may j (within j x)) (sym same)
            ];
        ids = λ j k x y ne e f.
            let same = sym (id j (within j x)) ∙ (e ∙ id k (within k y)) in
            let to = sym (way j (within j x)) ∙ (f ∙ way k (within k y)) in
            elim (cases_lt j k) [
              | inl below ↦ other_id j k below (within k y) (may k (within k y)) same to
              | inr from ↦ other_id k j (omega arith) (within j x) (may j (within j x)) (sym same) (sym to)
            ];
      }
