use Rattle.she_aes.proofs.Tables.{inverse_rule}
use Rattle.she_aes.proofs.laws.product_with_the_inverse.Goals as goal

pub returns : goal.returns
returns c = inverse_rule
