-- what is left gives the reason
use Rattle.std.proofs.Common.{◌≡◌, ◌+◌, ◌*◌, ◌≤◌, drop}
use Rattle.explain_commands.specs.Reasons.{first_reason, all_tries, all_kinds}
use Rattle.explain_commands.proofs.reasons.explain.Given as goal

abbrev pub invariant-loop-kind : goal.invariant-loop-kind
invariant-loop-kind l = record {
  reason_is : first_reason l.case all_kinds ≡ first_reason l.case (drop l.kind-index all_kinds);
  tries_are : all_tries l.case all_kinds ≡ l.tries + all_tries l.case (drop l.kind-index all_kinds);
  few : l.tries ≤ 65536 * l.kind-index;
}
