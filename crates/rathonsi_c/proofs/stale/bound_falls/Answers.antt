use Rattle.std.proofs.Common.{inl, inr, ℕ, subst, List, Option, sym}
use Rattle.std.proofs.lemmas.Bool.{cases_lt, ltb-true, lt-ltb}
use Rattle.rathonsi_c.specs.Stale.{BoundFalls}
use Rattle.rathonsi_c.proofs.StaleLaws.{bound-lower, bound-stays}
use Rattle.rathonsi_c.proofs.stale.bound_falls.Goals as goal

pub returns-in-Some-bound_in : goal.returns-in-Some-bound_in
returns-in-Some-bound_in c =
    let before = c.args.before.now in
    let held = c.in-Some.held in
    let bytes = c.in-Some-after.bytes in
    let next = c.in-Some-bound_in.bound in (
      λ yes. subst (λ (o : Option (List ℕ)). BoundFalls before o) (sym c.in-Some-after.is) (bound-lower before bytes held.id held.direction held.bound c.in-Some.ensures.some next c.in-Some-bound_in.ensures (ltb-true _ _ yes)),
      λ falls. elim (cases_lt next held.bound) [
        | inl below ↦ lt-ltb _ _ below
        | inr upto ↦ absurd (bound-stays before bytes held.id held.direction held.bound c.in-Some.ensures.some next c.in-Some-bound_in.ensures upto (subst (λ (o : Option (List ℕ)). BoundFalls before o) c.in-Some-after.is falls))
      ],
    )
