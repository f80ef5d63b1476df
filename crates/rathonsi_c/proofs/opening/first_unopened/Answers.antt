use Rattle.std.proofs.Common.{◌≡◌, inl, inr, sym, ap, subst, ◌∙◌, FitsSigned, to_z, of_z, w32, arith, rules}
use Rattle.std.proofs.lemmas.Bool.{cases_lt}
use Rattle.std.proofs.lemmas.Int.{to_z-of_z}
use Rattle.rathonsi_c.specs.declared.TheConstants.{OK}
use Rattle.rathonsi_c.specs.Opening.{OpensAt, FirstUnopened}
use Rattle.rathonsi_c.proofs.OpeningLaws.{opens_at_read}
use Rattle.rathonsi_c.proofs.opening.first_unopened.Goals as goal

pub returns-then-status-ne-OK-clause-some : goal.returns-then-status-ne-OK-clause-some
returns-then-status-ne-OK-clause-some c =
    let routes = c.args.routes.now in
    let k = c.loop-k.k in
    let status = c.opening_of-status.result in
    let fits : FitsSigned w32 status = search rules in
    subst (λ s. FirstUnopened routes c.args.image.now k s) (sym (to_z-of_z w32 status fits)) (record {
      below = c.loop-k-test.true;
      before = c.loop-k.invariant;
      refused = λ e. c.if-status-ne-OK.true (ap (of_z w32) e);
      is = opens_at_read routes c.args.image.now k _ status c.loop-k-test.true c.opening_of-status.ensures;
    })

pub loop-k-preserved : goal.loop-k-preserved
loop-k-preserved c = λ i x.
    let routes = c.args.routes.now in
    let k = c.loop-k.k in
    let status = c.opening_of-status.result in
    let fits : FitsSigned w32 status = search rules in
    let done : status ≡ OK = sym (to_z-of_z w32 status fits) ∙ ap (to_z w32) c.if-status-ne-OK.false in
    let here = opens_at_read routes c.args.image.now k _ status c.loop-k-test.true c.opening_of-status.ensures in
    elim (cases_lt i k) [
      | inl below ↦ c.loop-k.invariant i below
      | inr from ↦ subst (λ j. OpensAt routes c.args.image.now j OK) (let e : k ≡ i = omega arith in e) (subst (λ s. OpensAt routes c.args.image.now k s) done here)
    ]
