use Rattle.std.proofs.Common.{refl, arith}
use Rattle.std.proofs.lemmas.Result.{err_from_is_err_and}
use Rattle.cell_store.proofs.ReadingLaws.{failed_more, failed_after, reads_join}
use Rattle.cell_store.proofs.LogReadingLaws.{told-bank, told-no-bank}
use Rattle.cell_store.proofs.log_reading.read_bank.Goals as goal

pub returns-in_err-first-clause-fault : goal.returns-in_err-first-clause-fault
returns-in_err-first-clause-fault g c =
    let p = err_from_is_err_and c.from_residual.result c.from_residual.ensures.1 in
    rw (p.1, p.2) (failed_more 2 (omega arith) c.in_err-first.ensures.failed)

pub returns-in_err-second-clause-fault : goal.returns-in_err-second-clause-fault
returns-in_err-second-clause-fault g c =
    let p = err_from_is_err_and c.from_residual-in_err-second.result c.from_residual-in_err-second.ensures.1 in
    rw (p.1, p.2) (failed_after c.in_ok-first.ensures.same c.in_err-second.ensures.failed)

pub returns-in-Some-clause-same : goal.returns-in-Some-clause-same
returns-in-Some-clause-same g c = reads_join c.in_ok-first.ensures.same c.in_ok-second.ensures.same

pub returns-in-None-clause-fault : goal.returns-in-None-clause-fault
returns-in-None-clause-fault g c = (refl, reads_join c.in_ok-first.ensures.same c.in_ok-second.ensures.same, told-no-bank c.args.version c.args.cells _ _ _ _ c.in_ok-first.ensures.same.told c.in_ok-first.ensures.is c.in_ok-second.ensures.is c.in-None.ensures)

pub returns-in-Some-clause-is : goal.returns-in-Some-clause-is
returns-in-Some-clause-is g c = told-bank c.args.version c.args.cells _ _ _ _ c.in-Some.bank c.in_ok-first.ensures.same.told c.in_ok-first.ensures.is c.in_ok-second.ensures.is c.in-Some.ensures
