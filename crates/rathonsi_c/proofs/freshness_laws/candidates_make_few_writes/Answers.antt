use Rattle.rathonsi_c.proofs.CandidateLaws.{few_writes}
use Rattle.rathonsi_c.proofs.WriteLaws.{few_over_lives}
use Rattle.rathonsi_c.proofs.freshness_laws.candidates_make_few_writes.Goals as goal

pub returns-clause-alone : goal.returns-clause-alone
returns-clause-alone c = λ n r image bound in_use kept below writes. few_writes n r image bound in_use kept below writes

pub returns-clause-over_all_lives : goal.returns-clause-over_all_lives
returns-clause-over_all_lives c = λ m n k reserve window first last powered which receives least writes. few_over_lives m n k reserve window first last powered which receives least writes
