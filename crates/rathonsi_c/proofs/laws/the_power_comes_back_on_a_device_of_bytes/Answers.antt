use Rattle.store_plan.proofs.CallerLemmas.{cut-leaves}
use Rattle.rathonsi_c.proofs.laws.the_power_comes_back_on_a_device_of_bytes.Goals as goal

pub returns-clause-left : goal.returns-clause-left
returns-clause-left c = λ plan image left cut. cut-leaves plan image left cut

pub returns-clause-back : goal.returns-clause-back
returns-clause-back c = λ n a b cut empty opened. record { left = cut-leaves a.plan a.image b.image cut; empty = empty; opened = opened }
