use Rattle.std.proofs.Common.{refl, ap, ◌∙◌}
use Rattle.can_logs.specs.Findings.{first_counters}
use Rattle.explain_commands.proofs.state.Explainer.new.Goals as goal

pub returns-clause-before : goal.returns-clause-before
returns-clause-before c = (c.in_ok-counters.ensures ∙ ap first_counters c.lines.ensures.value, c.in_ok-recent.ensures, refl, c.in_ok-text.ensures.items)
