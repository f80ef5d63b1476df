use Rattle.flash_plan.proofs.TellingSteps.{erase_told}
use Rattle.flash_plan.proofs.laws.a_start_erases_only_if_it_must.Goals as goal

pub returns : goal.returns
returns c = λ told plan cells target is none comes. erase_told told plan.banks plan.places plan.put plan.best plan.latest cells target plan.step none is comes
