use Rattle.std.proofs.Common.{refl}
use Rattle.she_aes.specs.Gates.{sums_gates}
use Rattle.she_aes.proofs.circuits.sums_of.Goals as goal

pub returns : goal.returns
unfolding sums_gates
returns c = refl
