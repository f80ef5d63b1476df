use Rattle.rathonsi_c.proofs.WholeLaws.{whole_over}
use Rattle.rathonsi_c.proofs.laws.a_store_stays_whole_over_all_lives.Goals as goal

pub returns : goal.returns
returns c = λ n deeds first last empty whole lives image cut. whole_over n deeds first last empty whole lives image cut
