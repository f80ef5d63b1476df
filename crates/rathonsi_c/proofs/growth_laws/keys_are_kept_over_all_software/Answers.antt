use Rattle.rathonsi_c.proofs.SoftwareLaws.{filled_on, confirmed_on, up-whole}
use Rattle.rathonsi_c.proofs.growth_laws.keys_are_kept_over_all_software.Goals as goal

pub returns-clause-filled : goal.returns-clause-filled
returns-clause-filled c = λ table n slot a b room behind u few filled. filled_on table n slot a b room behind u few filled

pub returns-clause-kept : goal.returns-clause-kept
returns-clause-kept c = λ table n a b room behind uid m1 reply u confirmed. confirmed_on table n a b room behind uid m1 reply u confirmed

pub returns-clause-whole : goal.returns-clause-whole
returns-clause-whole c = λ table n a b room behind u. up-whole table n a b room behind u
