use Rattle.std.proofs.Common.{arith}
use Rattle.std.proofs.lemmas.Result.{on_ok_weaker, on_err_weaker}
use Rattle.store_growing.proofs.DiskSteps.{rest_from, all_written_on, cells_cut_on, number_cut_on, runs_lacking, runs_cells, for_err}
use Rattle.store_growing.proofs.growing.write_lacking.Goals as goal

pub returns-in_err-write_cells-clause-runs : goal.returns-in_err-write_cells-clause-runs
returns-in_err-write_cells-clause-runs g c =
    runs_cells c.args.routes.now _ c.args.there c.args.image.now (g.D.Disk.state c.args.disk.now) (g.met.D.Disk.is_disk c.args.disk.now)
    (omega arith) c.requires.there (rest_from c.args.routes.now c.from.result c.args.there c.from.ensures)
    (g.D.Disk.state c.write_cells.new.disk) c.write_cells.ensures.runs

pub returns-in_err-write_cells-clause-cut : goal.returns-in_err-write_cells-clause-cut
returns-in_err-write_cells-clause-cut g c =
    for_err c.from_residual.result
    (cells_cut_on c.args.routes.now _ c.args.there c.args.image.now (g.D.Disk.state c.args.disk.now) (g.met.D.Disk.is_disk c.args.disk.now)
    (omega arith) c.requires.there (rest_from c.args.routes.now c.from.result c.args.there c.from.ensures)
    (g.D.Disk.state c.write_cells.new.disk) c.in_err-write_cells.ensures.cut)

pub returns-clause-runs : goal.returns-clause-runs
returns-clause-runs g c =
    runs_lacking c.args.routes.now _ c.args.there c.args.image.now (g.D.Disk.state c.args.disk.now) (g.met.D.Disk.is_disk c.args.disk.now)
    (omega arith) c.requires.there (rest_from c.args.routes.now c.from.result c.args.there c.from.ensures)
    (g.D.Disk.state c.write_cells.new.disk) (g.D.Disk.state c.write_number.new.disk) c.write_cells.ensures.runs c.write_number.ensures.runs

pub returns-clause-written : goal.returns-clause-written
returns-clause-written g c =
    on_ok_weaker c.write_number.result
    (all_written_on c.args.routes.now _ c.args.there c.args.image.now (g.D.Disk.state c.args.disk.now) (g.met.D.Disk.is_disk c.args.disk.now)
    (omega arith) c.requires.there (rest_from c.args.routes.now c.from.result c.args.there c.from.ensures)
    (g.D.Disk.state c.write_cells.new.disk) (g.D.Disk.state c.write_number.new.disk) c.in_ok-write_cells.ensures.written)
    c.write_number.ensures.written

pub returns-clause-cut : goal.returns-clause-cut
returns-clause-cut g c =
    on_err_weaker c.write_number.result
    (number_cut_on c.args.routes.now _ c.args.there c.args.image.now (g.D.Disk.state c.args.disk.now) (g.met.D.Disk.is_disk c.args.disk.now)
    (omega arith) c.requires.there (rest_from c.args.routes.now c.from.result c.args.there c.from.ensures)
    (g.D.Disk.state c.write_cells.new.disk) (g.D.Disk.state c.write_number.new.disk) c.in_ok-write_cells.ensures.written)
    c.write_number.ensures.cut
