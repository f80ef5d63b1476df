use Rattle.std.proofs.Common.{sym, ◌∙◌, arith}
use Rattle.std.proofs.lemmas.Bool.{false≢true}
use Rattle.std.proofs.lemmas.Result.{err_from_is_err_and}
use Rattle.cut_disk.proofs.CallerLemmas.{grows_of_call}
use Rattle.cell_store.proofs.ReadingLaws.{read_done, read_failed, told-head}
use Rattle.cell_store.proofs.reading.read_header.Goals as goal

pub returns-in_err-read-clause-fault : goal.returns-in_err-read-clause-fault
returns-in_err-read-clause-fault g c =
    let p = err_from_is_err_and c.from_residual.result c.from_residual.ensures.1 in
    rw (p.1, p.2) (read_failed c.read.ensures.call c.read.ensures.same c.in_err-read.ensures.failed c.read.ensures.arms)

pub returns-then-is_header-clause-same : goal.returns-then-is_header-clause-same
returns-then-is_header-clause-same g c = read_done c.read.ensures.call c.read.ensures.same c.in_ok-read.ensures.count c.read.ensures.arms

pub returns-then-is_header-clause-grows : goal.returns-then-is_header-clause-grows
returns-then-is_header-clause-grows g c = grows_of_call c.read.ensures.call

pub returns-then-is_header-clause-head : goal.returns-then-is_header-clause-head
returns-then-is_header-clause-head g c t h =
    sym (told-head c.args.layout.version _ c.base.result c.read.new.out c.in_ok-read.ensures.bytes c.base.ensures (omega arith) t h) ∙ c.is_header.ensures.0 c.if-is_header.true

pub returns-else-is_header-clause-fault : goal.returns-else-is_header-clause-fault
returns-else-is_header-clause-fault g c = (
  read_done c.read.ensures.call c.read.ensures.same c.in_ok-read.ensures.count c.read.ensures.arms,
  λ t h head. false≢true (sym c.if-is_header.false ∙ c.is_header.ensures.1 (told-head c.args.layout.version _ c.base.result c.read.new.out c.in_ok-read.ensures.bytes c.base.ensures (omega arith) t h ∙ head)),
)
