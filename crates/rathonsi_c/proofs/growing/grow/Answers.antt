use Rattle.std.proofs.Common.{inl, inr, sym, ◌∙◌, FitsSigned, w32, rules, arith, subst, ◌≡◌, ℕ, List}
use Rattle.std.proofs.lemmas.Bool.{true≢false}
use Rattle.std.proofs.lemmas.Int.{to_z-of_z}
use Rattle.store_plan.specs.Growing.{PlansGrowth}
use Rattle.rathonsi_c.proofs.GrowthAnswers.{alone}
use Rattle.rathonsi_c.proofs.growing.grow.Goals as goal

pub returns-then-route-cells-clause-grows : goal.returns-then-route-cells-clause-grows
returns-then-route-cells-clause-grows c = λ ok.
    let r = c.args.route.now in
    let fits : FitsSigned w32 c.claim.result = search rules in
    record {
      empty = c.requires.3;
      direction = c.args.direction;
      ranges = c.requires.0;
      count = c.args.cells;
      told = c.requires.2;
      plans = inr (
        c.has_head.ensures.0 c.if-not-has_head.false,
        alone r c.args.image.now c.args.cells c.args.direction c.requires.0 (λ h. true≢false (sym (c.id_is_held.ensures.1 h) ∙ c.if-id_is_held.false)),
        inr (omega (arith, c.if-route-cells.true), c.claim.ensures.claims (sym (to_z-of_z w32 c.claim.result fits) ∙ ok)),
      );
    }

pub returns-clause-grows : goal.returns-clause-grows
returns-clause-grows c = λ ok.
    let r = c.args.route.now in
    let at : r.cell ≡ c.args.cells = omega (arith, c.if-route-cells.false, c.if-cells-route.false) in
    record {
      empty = c.requires.3;
      direction = c.args.direction;
      ranges = c.requires.0;
      count = c.args.cells;
      told = c.requires.2;
      plans = inr (
        c.has_head.ensures.0 c.if-not-has_head.false,
        alone r c.args.image.now c.args.cells c.args.direction c.requires.0 (λ h. true≢false (sym (c.id_is_held.ensures.1 h) ∙ c.if-id_is_held.false)),
        inl (
          at,
          (let m = c.requires.1.most in omega (arith, at, m)),
          c.may_grow.ensures.0 c.if-not-may_grow.false,
          subst (λ (p : List ℕ). PlansGrowth c.plan_growth.result c.args.cells p) c.bound_bytes.ensures c.plan_growth.ensures.plans,
        ),
      );
    }
