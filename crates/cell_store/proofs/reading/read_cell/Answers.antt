use Rattle.std.proofs.Common.{◌+◌, refl, arith}
use Rattle.std.proofs.lemmas.Result.{err_from_is_err_and}
use Rattle.cell_store.proofs.ReadingLaws.{read_done, read_failed, told-keeps, told-damaged}
use Rattle.cell_store.proofs.reading.read_cell.Goals as goal

pub returns-in_err-read-clause-fault : goal.returns-in_err-read-clause-fault
returns-in_err-read-clause-fault g c =
    let p = err_from_is_err_and c.from_residual.result c.from_residual.ensures.1 in
    rw (p.1, p.2) (read_failed c.read.ensures.call c.read.ensures.same c.in_err-read.ensures.failed c.read.ensures.arms)

pub returns-in-Some-clause-same : goal.returns-in-Some-clause-same
returns-in-Some-clause-same g c = read_done c.read.ensures.call c.read.ensures.same c.in_ok-read.ensures.count c.read.ensures.arms

pub returns-in-Some-clause-keeps : goal.returns-in-Some-clause-keeps
returns-in-Some-clause-keeps g c =
    told-keeps c.args.version (g.D.Disk.state c.args.disk.now).told c.args.cell (c.base.result + c.pair_place.result) c.read.new.out
    c.in_ok-read.ensures.bytes (omega (arith, c.base.ensures, c.pair_place.ensures)) (omega arith) c.in-Some.held c.in-Some.ensures

pub returns-in-None-clause-fault : goal.returns-in-None-clause-fault
returns-in-None-clause-fault g c = (
  refl,
  read_done c.read.ensures.call c.read.ensures.same c.in_ok-read.ensures.count c.read.ensures.arms,
  told-damaged c.args.version (g.D.Disk.state c.args.disk.now).told c.args.cell (c.base.result + c.pair_place.result) c.read.new.out
      c.in_ok-read.ensures.bytes (omega (arith, c.base.ensures, c.pair_place.ensures)) (omega arith) c.in-None.ensures,
)
