use Rattle.std.proofs.Common.{ℕ, ◌+◌, ◌<◌, sym, ap, ◌∙◌, arith}
use Rattle.explain_commands.specs.Reasons.{Failing, number_of_tries}
use Rattle.explain_commands.proofs.Searching.{computed_skipped, computed_differs, fails_skipped, fails_differs, agrees_here, tries_here}
use Rattle.explain_commands.proofs.reasons.search.Goals as goal
use Rattle.explain_commands.proofs.reasons.search.Goals.{in-Skipped, in-Differs}

pub returns-in-Agrees-clause-found : goal.returns-in-Agrees-clause-found
returns-in-Agrees-clause-found c =
    let f : Failing = c.args.case.now in
    let at : ℕ = c.loop-at.at in
    let within : at < number_of_tries f c.args.kind = omega (arith, c.loop-at-test.true, c.count-at-end.ensures.value) in
    sym (agrees_here f c.args.kind at within c.loop-at.invariant.none (sym c.in-Agrees.ensures))

pub returns-in-Agrees-clause-tries : goal.returns-in-Agrees-clause-tries
returns-in-Agrees-clause-tries c =
    let f : Failing = c.args.case.now in
    let at : ℕ = c.loop-at.at in
    let within : at < number_of_tries f c.args.kind = omega (arith, c.loop-at-test.true, c.count-at-end.ensures.value) in
    ap (λ n. n + 1) c.loop-at.invariant.tries_are ∙ sym (tries_here f c.args.kind at within c.loop-at.invariant.none (sym c.in-Agrees.ensures))

pub loop-at-preserved : goal.loop-at-preserved
loop-at-preserved c =
    let f : Failing = c.args.case.now in
    let at : ℕ = c.loop-at.at in
    elim c.match-trial.branch [
      | in-Skipped w ↦ record {
        none = fails_skipped f c.args.kind at c.loop-at.invariant.none (sym w.in-Skipped.ensures);
        tries_are = w.tries-is ∙ c.loop-at.invariant.tries_are ∙ sym (computed_skipped f c.args.kind at (sym w.in-Skipped.ensures));
        few = omega (arith, w.tries-is, c.loop-at.invariant.few);
      }
      | in-Differs w ↦ record {
        none = fails_differs f c.args.kind at c.loop-at.invariant.none (sym w.in-Differs.ensures);
        tries_are = w.tries-is ∙ ap (λ n. n + 1) c.loop-at.invariant.tries_are ∙ sym (computed_differs f c.args.kind at (sym w.in-Differs.ensures));
        few = omega (arith, w.tries-is, c.loop-at.invariant.few);
      }
    ]
