use Rattle.flash_laws.proofs.Reached.{even_wear}
use Rattle.flash_laws.proofs.laws.wear_is_spread_evenly.Goals as goal

pub returns : goal.returns
returns c = λ l deeds cells a b one other formatted lives in_one in_other. even_wear l deeds cells a b one other formatted lives in_one in_other
