use Rattle.std.proofs.Common.{◌+◌, arith}
use Rattle.cell_store.specs.Log.{bank_at}
use Rattle.cell_store.proofs.ReadingLaws.{read_done, read_failed}
use Rattle.cell_store.proofs.LogReadingLaws.{told-part}
use Rattle.cell_store.proofs.Results.{OnErr-from}
use Rattle.cell_store.proofs.log_reading.read_head.Goals as goal

pub returns-in_err-read-clause-failed : goal.returns-in_err-read-clause-failed
returns-in_err-read-clause-failed g c = OnErr-from c.from_residual.result (read_failed c.read.ensures.call c.read.ensures.same c.in_err-read.ensures.failed c.read.ensures.arms)

pub returns-clause-same : goal.returns-clause-same
returns-clause-same g c = read_done c.read.ensures.call c.read.ensures.same c.in_ok-read.ensures.count c.read.ensures.arms

pub returns-clause-is : goal.returns-clause-is
returns-clause-is g c = told-part _ c.args.version (c.base.result + c.bank_address.result) (bank_at c.args.cells c.args.side) 2 c.read.new.out c.in_ok-read.ensures.bytes (omega (arith, c.base.ensures, c.bank_address.ensures.is)) (omega arith)
