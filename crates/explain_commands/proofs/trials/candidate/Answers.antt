use Rattle.std.proofs.Common.{ℕ, ◌+◌, sym, ap, ◌∙◌, arith}
use Rattle.std.specs.Prelude.{Some}
use Rattle.explain_commands.specs.Trials.{has_low}
use Rattle.explain_commands.proofs.Searching.{none_more, found_within, number_passes, number_fails}
use Rattle.explain_commands.proofs.trials.candidate.Goals as goal

pub returns-in-Some : goal.returns-in-Some
returns-in-Some c =
    let low : ℕ = c.args.low in
    let first : ℕ = c.args.counter + 1 in
    let step : ℕ = c.loop-step.step in
    let v : ℕ = c.args.counter + (step + 1) in
    let passes = number_passes (has_low low v) v c.in-Some.freshness c.in-Some.ensures in
    ap Some (sym passes.0) ∙ sym (found_within (has_low low) first step v c.args.window (omega arith) (omega (arith, c.loop-step-test.true, c.from-step-end.ensures)) c.loop-step.invariant passes.1)

pub loop-step-preserved : goal.loop-step-preserved
loop-step-preserved c =
    let low : ℕ = c.args.low in
    let first : ℕ = c.args.counter + 1 in
    let step : ℕ = c.loop-step.step in
    let v : ℕ = c.args.counter + (step + 1) in
    none_more (has_low low) first step v (omega arith) c.loop-step.invariant (number_fails (has_low low v) v c.in_default.ensures)
