use Rattle.rathonsi_c.proofs.LivesLaws.{rises_over_lives, covered_over_lives}
use Rattle.rathonsi_c.proofs.RouteKept.{senders_never}
use Rattle.rathonsi_c.proofs.laws.freshness_rises_over_all_lives.Goals as goal

pub returns-clause-rises : goal.returns-clause-rises
returns-clause-rises c = λ n deeds first last powered lives k below never. rises_over_lives n deeds first last powered lives k below never

pub returns-clause-senders : goal.returns-clause-senders
returns-clause-senders c = λ n deeds first last lives k below is. senders_never n k deeds first last below is lives

pub returns-clause-covered : goal.returns-clause-covered
returns-clause-covered c = λ n deeds first last powered lives k below image cut. covered_over_lives n deeds first last powered lives k below image cut
