use Rattle.she_aes.proofs.Inverses.{only_inverse}
use Rattle.she_aes.proofs.laws.inverse_is_the_only_one.Goals as goal

pub returns : goal.returns
returns c = only_inverse
