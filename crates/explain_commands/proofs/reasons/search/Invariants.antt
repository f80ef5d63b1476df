-- no try so far agrees, and so many authenticators were computed
use Rattle.std.proofs.Common.{◌≡◌, ◌≤◌}
use Rattle.std.specs.Prelude.{find, None}
use Rattle.std.specs.List.{range_with_len}
use Rattle.explain_commands.specs.Trials.{agrees}
use Rattle.explain_commands.specs.Reasons.{trial_of, computed_in}
use Rattle.explain_commands.proofs.reasons.search.Given as goal

abbrev pub invariant-loop-at : goal.invariant-loop-at
invariant-loop-at l = record {
  none : find (λ i. agrees (trial_of l.case l.kind i)) (range_with_len 0 l.at) ≡ None;
  tries_are : l.tries ≡ computed_in l.case l.kind l.at;
  few : l.tries ≤ l.at;
}
