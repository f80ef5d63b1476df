use Rattle.std.proofs.Common.{length, replicate, ap, ◌∙◌, arith}
use Rattle.std.proofs.lemmas.List.{drop-replicate}
use Rattle.std.proofs.lemmas.Slice.{drop-append-drop}
use Rattle.store_plan.proofs.planning.write_of.Goals as goal

pub returns-clause-rest : goal.returns-clause-rest
returns-clause-rest c =
    let n = length c.args.bytes.now in
    drop-append-drop n (replicate 40 0) c.copy_from_slice.new.self n (omega arith) (ap length c.copy_from_slice.ensures.after) ∙ drop-replicate n 40 0
