use Rattle.flash_plan.proofs.TurnLaws.{turns_lived}
use Rattle.flash_plan.proofs.laws.a_caller_lives.Goals as goal

pub returns : goal.returns
returns c = turns_lived
