-- there is room for the answers by the rules so far
use Rattle.std.proofs.Common.{ℕ, ◌+◌, ◌<◌, ◌≤◌, length, get_or}
use Rattle.std.specs.Prelude.{vec_capacity}
use Rattle.endpoint_commands.specs.declared.rules.FrameRule.{FrameRule}
use Rattle.endpoint_commands.proofs.endpoint.answer_room.Given as goal

abbrev pub invariant-loop-rule : goal.invariant-loop-rule
invariant-loop-rule l = record {
  least : 4398 ≤ vec_capacity l.text;
  each : (k : ℕ) (d : FrameRule) → k < l.rule-index → length (get_or l.rules k d).to + 4398 ≤ vec_capacity l.text;
}
