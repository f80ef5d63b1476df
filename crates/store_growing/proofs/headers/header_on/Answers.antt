use Rattle.std.proofs.Common.{◌∙◌, arith}
use Rattle.std.proofs.lemmas.Result.{IfOk-weaker}
use Rattle.cut_disk.proofs.CallerLemmas.{runs_of_call, runs_more, runs_join}
use Rattle.store_growing.proofs.DiskSteps.{front_read}
use Rattle.store_growing.proofs.headers.header_on.Goals as goal

pub returns-in_err-read-clause-runs : goal.returns-in_err-read-clause-runs
returns-in_err-read-clause-runs g c = runs_more 2 (omega arith) (runs_of_call c.in_err-read.ensures.call)

pub returns-clause-runs : goal.returns-clause-runs
returns-clause-runs g c = runs_join (runs_of_call c.in_ok-read.ensures.call) c.header_beside.ensures.runs

pub returns-clause-stands : goal.returns-clause-stands
returns-clause-stands g c =
    IfOk-weaker c.header_beside.result _ _
    (λ there stands t told. stands t (c.read.ensures.same ∙ told)
    (front_read (g.D.Disk.state c.args.disk.now) c.read.new.out (omega (arith, c.read.auto.out)) c.in_ok-read.ensures.bytes t told))
    c.header_beside.ensures.stands
