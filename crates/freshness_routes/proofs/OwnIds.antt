-- Data IDs that are all different, one more route at a time
use Rattle.std.proofs.Common.{◌≡◌, ◌≢◌, ℕ, ◌+◌, ◌<◌, List, length, take, get_or, All, AllPairs, arith, sym, ◌∙◌, ap, inl, inr}
use Rattle.std.proofs.lemmas.List.{get_or-take, get_or_default, length-take-le}
use Rattle.std.proofs.lemmas.Bool.Decides.{eqb_tells}
use Rattle.freshness_routes.specs.declared.routes.Route.{Route}

-- those of the first n routes
abbrev pub OwnBelow : List Route → ℕ → Type 0
OwnBelow routes n = (j k : ℕ) (d : Route) → j < k → k < n → (get_or routes j d).id ≢ (get_or routes k d).id

pub own_more : (routes : List Route) (i : ℕ) (x : Route) → i < length routes → get_or routes i x ≡ x → OwnBelow routes i → All (λ r. r.id ≢ x.id) (take i routes) → OwnBelow routes (i + 1)
own_more routes i x inside here own free j k d before below same = elim (eqb_tells k i) [
  | inl is ↦
      let at : get_or routes i d ≡ x = get_or_default routes i d x inside ∙ here in
      let first : j < i = omega (arith, is.1) in
      free j d (omega (arith, length-take-le i routes (omega arith)))
      (ap (λ r. r.id) (get_or-take i routes j d first) ∙ same ∙ ap (λ n. (get_or routes n d).id) is.1 ∙ ap (λ r. r.id) at)
  | inr other ↦ own j k d before (omega (arith, other.1)) same
]

pub own_here : (routes : List Route) (i : ℕ) (x : Route) → i < length routes → get_or routes i x ≡ x → AllPairs (λ r s. r.id ≢ s.id) routes → All (λ r. r.id ≢ x.id) (take i routes)
own_here routes i x inside here own k d below same =
    let first : k < i = omega (arith, length-take-le i routes (omega arith)) in
    own k i d first inside (ap (λ r. r.id) (sym (get_or-take i routes k d first)) ∙ same ∙ ap (λ r. r.id) (sym (get_or_default routes i d x inside ∙ here)))
