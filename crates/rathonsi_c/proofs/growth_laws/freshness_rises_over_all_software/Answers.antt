use Rattle.rathonsi_c.proofs.SoftwareLaws.{rises_over_all}
use Rattle.rathonsi_c.proofs.RollBackLaws.{covered_over_all}
use Rattle.rathonsi_c.proofs.growth_laws.freshness_rises_over_all_software.Goals as goal

pub returns-clause-rises : goal.returns-clause-rises
returns-clause-rises c = λ table softwares a d room end apart empty whole all k never. rises_over_all table softwares a d room end apart empty whole all k never

pub returns-clause-covered : goal.returns-clause-covered
returns-clause-covered c = λ table softwares a d room end k low apart empty whole all never kept. covered_over_all table softwares a d room end k low apart empty whole all never kept
