use Rattle.program_lives.proofs.RefusedRuns.{refused_starts_are_unfinished}
use Rattle.program_lives.proofs.laws.refused_starts_are_unfinished.Goals as goal

pub returns : goal.returns
returns c = refused_starts_are_unfinished
