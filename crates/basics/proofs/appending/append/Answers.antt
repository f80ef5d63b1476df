use Rattle.std.proofs.Common.{◌+◌, ◌-◌, length, arith}
use Rattle.std.proofs.lemmas.Slice.{drop-put_mid}
use Rattle.basics.proofs.appending.append.Goals as goal

pub returns-clause-rest : goal.returns-clause-rest
returns-clause-rest c = λ n h.
    let at = c.args.at in
    let k = at + length c.args.bytes.now - at in
    drop-put_mid at k c.args.out.now c.copy_from_slice.new.self n (omega arith) (omega arith) (omega (arith, c.copy_from_slice.ensures.len))
