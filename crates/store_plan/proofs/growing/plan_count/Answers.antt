use Rattle.std.proofs.Common.{ℕ, List, refl, subst, ◌∙◌}
use Rattle.std.specs.Int.{w16}
use Rattle.basics.proofs.CallerLemmas.{to_be_bytes-is}
use Rattle.store_plan.specs.Plans.{WritesAt}
use Rattle.store_plan.proofs.growing.plan_count.Goals as goal

pub returns-clause-plans : goal.returns-clause-plans
returns-clause-plans c = record {
  first = refl;
  second = refl;
  third =
      subst (λ (b : List ℕ). WritesAt c.write_of.result 10 b) (c.to_be_bytes.ensures ∙ to_be_bytes-is w16 c.args.cells) c.write_of.ensures.writes;
  rests = record { first = refl; second = refl; third = c.write_of.ensures.rest };
}
