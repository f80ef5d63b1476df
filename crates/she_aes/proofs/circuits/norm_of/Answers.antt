use Rattle.std.proofs.Common.{refl}
use Rattle.she_aes.specs.Gates.{norm_gates}
use Rattle.she_aes.proofs.circuits.norm_of.Goals as goal

pub returns : goal.returns
unfolding norm_gates
returns c = refl
