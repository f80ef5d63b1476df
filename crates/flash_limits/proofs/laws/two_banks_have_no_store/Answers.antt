use Rattle.flash_limits.proofs.TwoBanks.{no_store}
use Rattle.flash_limits.proofs.laws.two_banks_have_no_store.Goals as goal

pub returns : goal.returns
returns c = no_store
