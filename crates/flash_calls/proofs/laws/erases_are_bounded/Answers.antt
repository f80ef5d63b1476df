use Rattle.flash_calls.proofs.WearLives.{call_erases}
use Rattle.flash_calls.proofs.laws.erases_are_bounded.Goals as goal

pub returns : goal.returns
returns c = call_erases
