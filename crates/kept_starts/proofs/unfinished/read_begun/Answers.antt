use Rattle.std.proofs.Common.{◌+◌, ℕ, subst, arith}
use Rattle.std.specs.Prelude.{◌↔◌, IsTrue}
use Rattle.cut_disk.proofs.CallerLemmas.{runs_of_call}
use Rattle.cell_store.specs.Layout.{base}
use Rattle.kept_starts.specs.Unfinished.{IsBegunFrom}
use Rattle.kept_starts.proofs.UnfinishedLaws.{read_begun_told}
use Rattle.kept_starts.proofs.unfinished.read_begun.Goals as goal

pub returns-in-Ok-clause-begun : goal.returns-in-Ok-clause-begun
returns-in-Ok-clause-begun g c =
    let test : IsTrue c.is_begun.result ↔ IsBegunFrom (base c.args.version + 32) c.args.store.now c.read.new.out =
    subst (λ (n : ℕ). IsTrue c.is_begun.result ↔ IsBegunFrom (n + 32) c.args.store.now c.read.new.out) c.base.ensures c.is_begun.ensures in
    read_begun_told (g.D.Disk.state c.args.disk.now) c.read.new.out c.is_begun.result (base c.args.version + 32) c.args.store.now (g.met.D.Disk.is_disk c.args.disk.now)
    (omega (arith, c.requires, c.read.auto.out)) c.in-Ok.ensures.bytes test

pub returns-in-Ok-clause-as_before : goal.returns-in-Ok-clause-as_before
returns-in-Ok-clause-as_before g c = record { runs = runs_of_call c.in-Ok.ensures.call; told = c.read.ensures.same; faults = c.in-Ok.ensures.count }

pub returns-in-Err-clause-refused : goal.returns-in-Err-clause-refused
returns-in-Err-clause-refused g c = record { runs = runs_of_call c.in-Err.ensures.call; told = c.read.ensures.same; cause = c.in-Err.ensures.failed }
