use Rattle.std.proofs.Common.{refl}
use Rattle.she_aes.specs.Gates.{inverse_gates}
use Rattle.she_aes.proofs.circuits.inverse_of.Goals as goal

pub returns : goal.returns
unfolding inverse_gates
returns c = refl
