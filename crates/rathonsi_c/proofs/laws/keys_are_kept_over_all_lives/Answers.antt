use Rattle.rathonsi_c.proofs.KeyLaws.{confirmed_over, confirmed_cut, either_cut, filled_over}
use Rattle.rathonsi_c.proofs.laws.keys_are_kept_over_all_lives.Goals as goal

pub returns-clause-kept : goal.returns-clause-kept
returns-clause-kept c = λ n deeds first last uid m1 reply planned confirmed none free lives. confirmed_over n deeds first last uid m1 reply planned confirmed none free lives

pub returns-clause-cut : goal.returns-clause-cut
returns-clause-cut c = λ n deeds first last uid m1 reply planned confirmed none free lives not image cut. confirmed_cut n deeds first last uid m1 reply planned confirmed none free lives not image cut

pub returns-clause-either : goal.returns-clause-either
returns-clause-either c = λ n deeds first last uid m1 reply planned confirmed as_told free lives image cut. either_cut n deeds first last uid m1 reply planned confirmed as_told free lives image cut

pub returns-clause-filled : goal.returns-clause-filled
returns-clause-filled c = λ n deeds first last slot powered few filled lives image cut. filled_over n deeds first last slot powered few filled lives image cut
