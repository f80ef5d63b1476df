use Rattle.std.proofs.Common.{refl}
use Rattle.she_aes.specs.Gates.{products}
use Rattle.she_aes.proofs.circuits.products_of.Goals as goal

pub returns : goal.returns
unfolding products
returns c = refl
