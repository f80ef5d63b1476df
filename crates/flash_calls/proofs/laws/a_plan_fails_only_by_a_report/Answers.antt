use Rattle.flash_calls.proofs.WearLives.{call_fails}
use Rattle.flash_calls.proofs.laws.a_plan_fails_only_by_a_report.Goals as goal

pub returns : goal.returns
returns c = call_fails
