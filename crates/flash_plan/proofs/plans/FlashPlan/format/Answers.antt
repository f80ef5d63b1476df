use Rattle.std.proofs.Common.{arith}
use Rattle.flash_plan.proofs.plans.FlashPlan.format.Goals as goal

pub returns-clause-formats : goal.returns-clause-formats
returns-clause-formats c cells f x above below = absurd (omega (arith, above, below, c.requires.two))
