use Rattle.std.proofs.Common.{◌*◌, length, arith}
use Rattle.std.proofs.lemmas.Result.{on_ok_weaker, on_err_weaker}
use Rattle.cut_disk.proofs.CallerLemmas.{runs_more}
use Rattle.store_growing.proofs.DiskSteps.{none_written, step_written, first_cut, then_cut, rest_of, runs_step, for_err}
use Rattle.store_growing.proofs.growing.+write_cells.Goals as goal

pub returns-in-empty-clause-written : goal.returns-in-empty-clause-written
returns-in-empty-clause-written g t c = none_written c.args.cell c.args.routes.now (g.D.Disk.state c.args.disk.now) c.in-empty.len_below

pub returns-in_err-write_cell-in-len1-up-clause-cut : goal.returns-in_err-write_cell-in-len1-up-clause-cut
returns-in_err-write_cell-in-len1-up-clause-cut g t c =
    for_err c.from_residual.result
    (first_cut c.args.cell c.args.routes.now _ c.route-item.result (g.D.Disk.state c.args.disk.now) (g.met.D.Disk.is_disk c.args.disk.now)
    c.requires.room c.in-len1-up.len_at_least c.route-item.is (rest_of c.args.routes.now) (g.D.Disk.state c.write_cell.new.disk)
    c.in_err-write_cell-in-len1-up.ensures.cut)

pub returns-in_err-write_cell-in-len1-up-clause-runs : goal.returns-in_err-write_cell-in-len1-up-clause-runs
returns-in_err-write_cell-in-len1-up-clause-runs g t c =
    runs_more (4 * length c.args.routes.now) (let some = c.in-len1-up.len_at_least in omega (arith, some)) c.write_cell.ensures.runs

pub returns-in_ok-write_cell-in-len1-up-clause-runs : goal.returns-in_ok-write_cell-in-len1-up-clause-runs
returns-in_ok-write_cell-in-len1-up-clause-runs g t c =
    runs_step c.args.routes.now _ (g.D.Disk.state c.args.disk.now) (g.D.Disk.state c.write_cell.new.disk) (g.D.Disk.state c.write_cells.new.disk)
    c.in-len1-up.len_at_least (rest_of c.args.routes.now) c.write_cell.ensures.runs c.write_cells.ensures.runs

pub returns-in_ok-write_cell-in-len1-up-clause-written : goal.returns-in_ok-write_cell-in-len1-up-clause-written
returns-in_ok-write_cell-in-len1-up-clause-written g t c =
    on_ok_weaker c.write_cells.result
    (step_written c.args.cell c.args.routes.now _ c.route-item.result (g.D.Disk.state c.args.disk.now) (g.met.D.Disk.is_disk c.args.disk.now)
    c.requires.room c.in-len1-up.len_at_least c.route-item.is (rest_of c.args.routes.now) (g.D.Disk.state c.write_cell.new.disk)
    (g.D.Disk.state c.write_cells.new.disk) c.in_ok-write_cell-in-len1-up.ensures.written)
    c.write_cells.ensures.written

pub returns-in_ok-write_cell-in-len1-up-clause-cut : goal.returns-in_ok-write_cell-in-len1-up-clause-cut
returns-in_ok-write_cell-in-len1-up-clause-cut g t c =
    on_err_weaker c.write_cells.result
    (then_cut c.args.cell c.args.routes.now _ c.route-item.result (g.D.Disk.state c.args.disk.now) (g.met.D.Disk.is_disk c.args.disk.now)
    c.requires.room c.in-len1-up.len_at_least c.route-item.is (rest_of c.args.routes.now) (g.D.Disk.state c.write_cell.new.disk)
    (g.D.Disk.state c.write_cells.new.disk) c.in_ok-write_cell-in-len1-up.ensures.written)
    c.write_cells.ensures.cut
