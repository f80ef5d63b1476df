use Rattle.std.proofs.Common.{◌∙◌}
use Rattle.key_commands.proofs.Commands.{next_argument}
use Rattle.key_commands.proofs.parsing.simple_command.Goals as goal

pub loop-value-preserved : goal.loop-value-preserved
loop-value-preserved c =
    c.in_ok-command.ensures.shape c.required_text.ensures.local
    ∙ next_argument c.args.name.now c.args.values.now c.loop-value.value-index _ _ _ c.loop-value-test.true c.loop-value.invariant c.required_text.ensures.rule
