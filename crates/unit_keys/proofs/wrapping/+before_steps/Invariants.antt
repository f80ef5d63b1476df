use Rattle.unit_keys.proofs.wrapping.+before_steps.Given as goal

abbrev pub decreases-before_steps : goal.decreases-before_steps
decreases-before_steps l = l.steps
