use Rattle.std.proofs.Common.{arith}
use Rattle.std.proofs.lemmas.Result.{on_ok_weaker, on_err_weaker}
use Rattle.cut_disk.proofs.CallerLemmas.{runs_more, runs_join}
use Rattle.store_growing.proofs.DiskSteps.{cell_written, filling_cut, opening_cut, for_err}
use Rattle.store_growing.proofs.growing.write_cell.Goals as goal

pub returns-in_err-write_and_sync-clause-runs : goal.returns-in_err-write_and_sync-clause-runs
returns-in_err-write_and_sync-clause-runs g c = runs_more 4 (omega arith) c.write_and_sync.ensures.runs

pub returns-in_err-write_and_sync-clause-cut : goal.returns-in_err-write_and_sync-clause-cut
returns-in_err-write_and_sync-clause-cut g c =
    for_err c.from_residual.result
    (filling_cut c.args.cell c.pair_place-at.result c.args.route.now c.bound_bytes-payload.result c.marked.result (g.D.Disk.state c.args.disk.now)
    (g.met.D.Disk.is_disk c.args.disk.now) c.requires.room c.pair_place-at.ensures c.bound_bytes-payload.ensures c.marked.ensures
    (g.D.Disk.state c.write_and_sync.new.disk) c.in_err-write_and_sync.ensures.torn)

pub returns-clause-runs : goal.returns-clause-runs
returns-clause-runs g c = runs_join c.write_and_sync.ensures.runs c.write_and_sync-2.ensures.runs

pub returns-clause-written : goal.returns-clause-written
returns-clause-written g c =
    on_ok_weaker c.write_and_sync-2.result
    (cell_written c.args.cell c.pair_place-at.result c.args.route.now c.bound_bytes-payload.result c.marked.result (g.D.Disk.state c.args.disk.now)
    (g.met.D.Disk.is_disk c.args.disk.now) c.requires.room c.pair_place-at.ensures c.bound_bytes-payload.ensures c.marked.ensures
    (g.D.Disk.state c.write_and_sync.new.disk) (g.D.Disk.state c.write_and_sync-2.new.disk) c.in_ok-write_and_sync.ensures.lasts)
    c.write_and_sync-2.ensures.lasts

pub returns-clause-cut : goal.returns-clause-cut
returns-clause-cut g c =
    on_err_weaker c.write_and_sync-2.result
    (opening_cut c.args.cell c.pair_place-at.result c.args.route.now c.bound_bytes-payload.result c.marked.result (g.D.Disk.state c.args.disk.now)
    (g.met.D.Disk.is_disk c.args.disk.now) c.requires.room c.pair_place-at.ensures c.bound_bytes-payload.ensures c.marked.ensures
    (g.D.Disk.state c.write_and_sync.new.disk) (g.D.Disk.state c.write_and_sync-2.new.disk) (g.met.D.Disk.is_disk c.write_and_sync.new.disk)
    c.write_and_sync.ensures.runs.size c.in_ok-write_and_sync.ensures.lasts)
    c.write_and_sync-2.ensures.torn
