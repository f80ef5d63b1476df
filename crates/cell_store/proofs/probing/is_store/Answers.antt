use Rattle.std.proofs.Common.{arith}
use Rattle.cell_store.proofs.probing.is_store.Goals as goal

pub returns : goal.returns
returns c = (λ e. (record { some = omega arith; most = omega arith }, c.is_header.ensures.0 e), λ p. c.is_header.ensures.1 p.1)
