use Rattle.std.proofs.Common.{arith}
use Rattle.rathonsi_c.proofs.store.cells_of.Goals as goal

pub returns-in_default : goal.returns-in_default
returns-in_default c = λ n is.
    c.in_default.ensures n (record { some = (let l = is.least in omega arith); most = (let m = is.most in omega arith) }) is.is
