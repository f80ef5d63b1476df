use Rattle.flash_calls.proofs.WearLives.{call_skips}
use Rattle.flash_calls.proofs.laws.a_start_skips_older_banks.Goals as goal

pub returns : goal.returns
returns c = call_skips
