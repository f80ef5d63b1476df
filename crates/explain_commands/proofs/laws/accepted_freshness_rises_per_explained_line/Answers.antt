use Rattle.explain_commands.proofs.ExplainRising.{answers_rise}
use Rattle.explain_commands.proofs.laws.accepted_freshness_rises_per_explained_line.Goals as goal

pub returns : goal.returns
returns c = answers_rise
