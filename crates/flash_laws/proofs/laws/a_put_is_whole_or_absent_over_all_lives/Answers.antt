use Rattle.flash_laws.proofs.Reached.{formatted_lives, later_lives}
use Rattle.flash_laws.proofs.laws.a_put_is_whole_or_absent_over_all_lives.Goals as goal

pub returns-clause-formatted : goal.returns-clause-formatted
returns-clause-formatted c = λ l deeds cells now a b formatted lives is. formatted_lives l deeds cells now a b formatted lives is

pub returns-clause-later : goal.returns-clause-later
returns-clause-later c = λ l earlier deeds first cells now start a b formatted before is lives q. later_lives l earlier deeds first cells now start a b formatted before is lives q
