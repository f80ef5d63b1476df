use Rattle.std.proofs.Common.{◌+◌, ◌<◌, ◌⊎◌, ℕ, inl, inr, List, length, refl, sym, subst, ◌∙◌, arith}
use Rattle.std.proofs.lemmas.Bool.{true≢false}
use Rattle.cell_store.specs.Twin.{twin_size}
use Rattle.freshness_routes.specs.declared.routes.Direction.{Direction}
use Rattle.rathonsi_c.specs.declared.route.RathonsiRoute.{RathonsiRoute}
use Rattle.rathonsi_c.specs.Images.{IdIsHeld}
use Rattle.rathonsi_c.specs.Routes.{InRanges, OutOfRanges}
use Rattle.rathonsi_c.specs.Stores.{IsSize, RouteIdIsHeld}
use Rattle.rathonsi_c.proofs.AnswerLaws.{one_size}
use Rattle.rathonsi_c.proofs.ImageLaws.{one_direction}
use Rattle.rathonsi_c.proofs.store.rathonsi_route_make.Goals as goal

-- a route in its ranges, whose cell the image has
in_image : (r : RathonsiRoute) (d : Direction) (image : List ℕ) (cells : ℕ) → InRanges r d → IsSize cells (length image) → r.cell < cells → OutOfRanges r ⊎ (length image < twin_size (r.cell + 1)) → ⊥
in_image r d image cells ranges size below either = elim either [ inl out ↦ out d ranges | inr short ↦ absurd (let s = size.is in omega arith) ]

pub returns-in_default-direction_of-clause-answer : goal.returns-in_default-direction_of-clause-answer
returns-in_default-direction_of-clause-answer c =
    inr ((λ none. none c.in-Some.cells c.in-Some.ensures), inl (inl (λ d ranges. c.in_default-direction_of.ensures.none d ranges), refl))

pub returns-then-route-cells-clause-answer : goal.returns-then-route-cells-clause-answer
returns-then-route-cells-clause-answer c =
    inr ((λ none. none c.in-Some.cells c.in-Some.ensures), inl (inr (let t = c.if-route-cells.true in let s = c.in-Some.ensures.is in omega arith), refl))

pub returns-then-id_is_held-clause-answer : goal.returns-then-id_is_held-clause-answer
returns-then-id_is_held-clause-answer c =
    let d = c.in-Some-direction_of.direction in
    let ranges = c.in-Some-direction_of.ensures.some in
    inr (
      (λ none. none c.in-Some.cells c.in-Some.ensures),
      inr (
        in_image c.args.route.now d c.args.image.now c.in-Some.cells ranges c.in-Some.ensures (let t = c.if-route-cells.false in omega arith),
        inl ((c.in-Some.cells, (c.in-Some.ensures, (d, (ranges, c.id_is_held.ensures.0 c.if-id_is_held.true)))), refl),
      ),
    )

pub returns-clause-answer : goal.returns-clause-answer
returns-clause-answer c =
    let r = c.args.route.now in
    let image = c.args.image.now in
    let d = c.in-Some-direction_of.direction in
    let ranges = c.in-Some-direction_of.ensures.some in
    let alone : (n : ℕ) × (IsSize n (length image) × RouteIdIsHeld r image n) → ⊥ = λ h.
    let same = one_size h.0 c.in-Some.cells _ h.1.0 c.in-Some.ensures in
    let one = one_direction r h.1.1.0 d h.1.1.1.0 ranges in
    let held = subst (λ n. IdIsHeld image n r.cell r.data_id d) same (subst (λ (e : Direction). IdIsHeld image h.0 r.cell r.data_id e) one h.1.1.1.1) in
    true≢false (sym (c.id_is_held.ensures.1 held) ∙ c.if-id_is_held.false) in
    inr (
      (λ none. none c.in-Some.cells c.in-Some.ensures),
      inr (in_image r d image c.in-Some.cells ranges c.in-Some.ensures (let t = c.if-route-cells.false in omega arith), inr (alone, refl)),
    )
