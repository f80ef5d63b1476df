use Rattle.std.proofs.Common.{refl}
use Rattle.she_aes.specs.Gates.{byte_gates}
use Rattle.she_aes.proofs.circuits.byte_of.Goals as goal

pub returns : goal.returns
unfolding byte_gates
returns c = refl
