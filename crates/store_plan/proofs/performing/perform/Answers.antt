use Rattle.std.proofs.Common.{◌∙◌, arith, ◌<◌, ◌≤◌, ◌+◌, length}
use Rattle.cut_disk.proofs.CallerLemmas.{runs_join, runs_more, rose_after}
use Rattle.cell_store.proofs.CallerLemmas.{OnErr-from, either-outside}
use Rattle.store_plan.proofs.LeavesLaws.{on_ok_both, on_err_both, first-torn, second-torn, third-torn, all-done, fails-put, puts}
use Rattle.std.proofs.lemmas.Result.{on_ok_weaker, on_err_weaker}
use Rattle.cut_disk.specs.Images.{firm, EachImage}
use Rattle.cell_store.specs.Layout.{SameOutside}
use Rattle.store_plan.specs.Plans.{in_first, in_second, in_third, applied_write}
use Rattle.store_plan.proofs.CutLaws.{torn-cut, done-cut}
use Rattle.store_plan.specs.Performing.{at_first, at_second, at_third}
use Rattle.store_plan.proofs.performing.perform.Goals as goal

pub returns-in_err-do_write-clause-runs : goal.returns-in_err-do_write-clause-runs
returns-in_err-do_write-clause-runs g c = runs_more 6 (omega arith) c.do_write.ensures.runs

pub returns-in_err-do_write-clause-fails : goal.returns-in_err-do_write-clause-fails
returns-in_err-do_write-clause-fails g c =
    OnErr-from c.from_residual.result (λ cells i new below serves.
    fails-put c.args.plan.now i new cells (g.D.Disk.state c.args.disk.now) (g.D.Disk.state c.do_write.new.disk) below serves
    (runs_more 6 (omega arith) c.do_write.ensures.runs) c.in_err-do_write.ensures.failed
    (λ t told. first-torn c.args.plan.now (g.D.Disk.state c.args.disk.now).size i new (g.D.Disk.state c.args.disk.now).told (g.D.Disk.state c.do_write.new.disk).told (g.D.Disk.state c.do_write.new.disk).told (g.D.Disk.state c.do_write.new.disk).told t told (serves t told)
    (g.met.D.Disk.is_disk c.args.disk.now).bytes_sized c.in_err-do_write.ensures.torn))

pub returns-in_err-do_write-2-clause-runs : goal.returns-in_err-do_write-2-clause-runs
returns-in_err-do_write-2-clause-runs g c = runs_more 6 (omega arith) (runs_join c.do_write.ensures.runs c.do_write-2.ensures.runs)

pub returns-in_err-do_write-2-clause-fails : goal.returns-in_err-do_write-2-clause-fails
returns-in_err-do_write-2-clause-fails g c =
    OnErr-from c.from_residual-in_err-do_write-2.result (λ cells i new below serves.
    fails-put c.args.plan.now i new cells (g.D.Disk.state c.args.disk.now) (g.D.Disk.state c.do_write-2.new.disk) below serves
    (runs_more 6 (omega arith) (runs_join c.do_write.ensures.runs c.do_write-2.ensures.runs)) (rose_after _ _ _ c.do_write.ensures.runs.later c.in_err-do_write-2.ensures.failed)
    (λ t told. second-torn c.args.plan.now (g.D.Disk.state c.args.disk.now).size i new (g.D.Disk.state c.args.disk.now).told (g.D.Disk.state c.do_write.new.disk).told (g.D.Disk.state c.do_write-2.new.disk).told (g.D.Disk.state c.do_write-2.new.disk).told t told (serves t told)
    (g.met.D.Disk.is_disk c.args.disk.now).bytes_sized c.in_ok-do_write.ensures.done (λ s h. (g.met.D.Disk.is_disk c.do_write.new.disk).bytes_sized s h ∙ c.do_write.ensures.runs.size) c.in_err-do_write-2.ensures.torn))

pub returns-clause-runs : goal.returns-clause-runs
returns-clause-runs g c = runs_join (runs_join c.do_write.ensures.runs c.do_write-2.ensures.runs) c.do_write-3.ensures.runs

pub returns-clause-puts : goal.returns-clause-puts
returns-clause-puts g c =
    on_ok_both c.do_write-3.result (λ done faults cells i new below serves.
    puts c.args.plan.now i new cells (g.D.Disk.state c.args.disk.now) (g.D.Disk.state c.do_write-3.new.disk) below serves
    (runs_join (runs_join c.do_write.ensures.runs c.do_write-2.ensures.runs) c.do_write-3.ensures.runs) (faults ∙ (c.in_ok-do_write-2.ensures.faults ∙ c.in_ok-do_write.ensures.faults))
    (g.met.D.Disk.is_disk c.args.disk.now).bytes_sized
    (λ t told. all-done c.args.plan.now (g.D.Disk.state c.args.disk.now).size i new (g.D.Disk.state c.args.disk.now).told (g.D.Disk.state c.do_write.new.disk).told (g.D.Disk.state c.do_write-2.new.disk).told (g.D.Disk.state c.do_write-3.new.disk).told t told (serves t told)
    (g.met.D.Disk.is_disk c.args.disk.now).bytes_sized c.in_ok-do_write.ensures.done c.in_ok-do_write-2.ensures.done done))
    c.do_write-3.ensures.done c.do_write-3.ensures.faults

pub returns-clause-fails : goal.returns-clause-fails
returns-clause-fails g c =
    on_err_both c.do_write-3.result (λ torn failed cells i new below serves.
    fails-put c.args.plan.now i new cells (g.D.Disk.state c.args.disk.now) (g.D.Disk.state c.do_write-3.new.disk) below serves
    (runs_join (runs_join c.do_write.ensures.runs c.do_write-2.ensures.runs) c.do_write-3.ensures.runs) (rose_after _ _ _ (runs_join c.do_write.ensures.runs c.do_write-2.ensures.runs).later failed)
    (λ t told. third-torn c.args.plan.now (g.D.Disk.state c.args.disk.now).size i new (g.D.Disk.state c.args.disk.now).told (g.D.Disk.state c.do_write.new.disk).told (g.D.Disk.state c.do_write-2.new.disk).told (g.D.Disk.state c.do_write-3.new.disk).told t told (serves t told)
    (g.met.D.Disk.is_disk c.args.disk.now).bytes_sized c.in_ok-do_write.ensures.done c.in_ok-do_write-2.ensures.done (λ s h. (g.met.D.Disk.is_disk c.do_write-2.new.disk).bytes_sized s h ∙ (c.do_write-2.ensures.runs.size ∙ c.do_write.ensures.runs.size)) torn))
    c.do_write-3.ensures.torn c.do_write-3.ensures.failed

pub returns-in_err-do_write-clause-cut : goal.returns-in_err-do_write-clause-cut
returns-in_err-do_write-clause-cut g c x was t told y image =
    let n = (g.met.D.Disk.is_disk c.args.disk.now).bytes_sized (firm x) was in
    let f = c.requires.first.inside in
    in_first (torn-cut c.args.plan.now.first x _ _ was (λ some. let g = f some in omega arith) c.in_err-do_write.ensures.torn t told y image)

pub returns-in_err-do_write-2-clause-cut : goal.returns-in_err-do_write-2-clause-cut
returns-in_err-do_write-2-clause-cut g c x was t told y image =
    let plan = c.args.plan.now in
    let mid = c.in_ok-do_write.ensures.whole x was in
    let n = (g.met.D.Disk.is_disk c.do_write.new.disk).bytes_sized (firm (applied_write plan.first x)) mid in
    let s = c.do_write.ensures.runs.size in
    let f = c.requires.second.inside in
    in_second (torn-cut plan.second (applied_write plan.first x) _ _ mid (λ some. let h = f some in omega arith) c.in_err-do_write-2.ensures.torn t told y image)

pub returns-clause-cut : goal.returns-clause-cut
returns-clause-cut g c x was =
    let plan = c.args.plan.now in
    let mid = c.in_ok-do_write.ensures.whole x was in
    let late = c.in_ok-do_write-2.ensures.whole (applied_write plan.first x) mid in
    let n = (g.met.D.Disk.is_disk c.do_write-2.new.disk).bytes_sized (firm (applied_write plan.second (applied_write plan.first x))) late in
    let s = c.do_write.ensures.runs.size in
    let r = c.do_write-2.ensures.runs.size in
    let f = c.requires.third.inside in
    let fits : 0 < plan.third.size → plan.third.offset + plan.third.size ≤ length (applied_write plan.second (applied_write plan.first x)) = λ some. (let h = f some in omega arith) in
    let each : EachImage (g.D.Disk.state c.do_write-3.new.disk).told (SameOutside plan.third.offset plan.third.size (applied_write plan.second (applied_write plan.first x))) =
    either-outside c.do_write-3.result _
    (on_ok_weaker c.do_write-3.result (λ whole. done-cut plan.third (applied_write plan.second (applied_write plan.first x)) _ fits (whole (applied_write plan.second (applied_write plan.first x)) late)) c.do_write-3.ensures.whole)
    (on_err_weaker c.do_write-3.result (λ torn. torn-cut plan.third (applied_write plan.second (applied_write plan.first x)) _ _ late fits torn) c.do_write-3.ensures.torn) in
    λ t told y image. in_third (each t told y image)

pub returns-clause-whole : goal.returns-clause-whole
returns-clause-whole g c =
    on_ok_weaker c.do_write-3.result
    (λ third x was. third _ (c.in_ok-do_write-2.ensures.whole _ (c.in_ok-do_write.ensures.whole x was)))
    c.do_write-3.ensures.whole

pub returns-in_err-do_write-clause-stops : goal.returns-in_err-do_write-clause-stops
returns-in_err-do_write-clause-stops g c =
    OnErr-from c.from_residual.result (at_first (record {
      runs = c.do_write.ensures.runs;
      failed = c.in_err-do_write.ensures.failed;
      torn = c.in_err-do_write.ensures.torn;
    }))

pub returns-in_err-do_write-2-clause-stops : goal.returns-in_err-do_write-2-clause-stops
returns-in_err-do_write-2-clause-stops g c =
    OnErr-from c.from_residual-in_err-do_write-2.result (at_second _ (record {
      runs = c.do_write.ensures.runs;
      faults = c.in_ok-do_write.ensures.faults;
      done = c.in_ok-do_write.ensures.done;
    }) (record {
      runs = c.do_write-2.ensures.runs;
      failed = c.in_err-do_write-2.ensures.failed;
      torn = c.in_err-do_write-2.ensures.torn;
    }))

pub returns-clause-each : goal.returns-clause-each
returns-clause-each g c =
    on_ok_both c.do_write-3.result (λ done faults. record {
      behind_first = g.D.Disk.state c.do_write.new.disk;
      behind_second = g.D.Disk.state c.do_write-2.new.disk;
      first = record { runs = c.do_write.ensures.runs; faults = c.in_ok-do_write.ensures.faults; done = c.in_ok-do_write.ensures.done };
      second = record { runs = c.do_write-2.ensures.runs; faults = c.in_ok-do_write-2.ensures.faults; done = c.in_ok-do_write-2.ensures.done };
      third = record { runs = c.do_write-3.ensures.runs; faults = faults; done = done };
    })
    c.do_write-3.ensures.done c.do_write-3.ensures.faults

pub returns-clause-stops : goal.returns-clause-stops
returns-clause-stops g c =
    on_err_both c.do_write-3.result (λ torn failed. at_third (g.D.Disk.state c.do_write.new.disk) (g.D.Disk.state c.do_write-2.new.disk)
    (record { runs = c.do_write.ensures.runs; faults = c.in_ok-do_write.ensures.faults; done = c.in_ok-do_write.ensures.done })
    (record { runs = c.do_write-2.ensures.runs; faults = c.in_ok-do_write-2.ensures.faults; done = c.in_ok-do_write-2.ensures.done })
    (record { runs = c.do_write-3.ensures.runs; failed = failed; torn = torn }))
    c.do_write-3.ensures.torn c.do_write-3.ensures.failed
