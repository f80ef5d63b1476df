use Rattle.chart_commands.proofs.Arrows.{arrows_of}
use Rattle.chart_commands.proofs.mark_laws.arrows_are_acceptances.Goals as goal

pub returns : goal.returns
returns c = λ start ms last first run. arrows_of start ms last first run (c.runs_are_authentic.ensures start ms last first run)
