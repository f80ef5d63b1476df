use Rattle.std.proofs.Common.{ℕ, subst, arith}
use Rattle.std.proofs.lemmas.Result.{err_from_is_err_and}
use Rattle.cut_disk.specs.Calls.{Rose, AsBefore}
use Rattle.store_growing.proofs.DiskSteps.{not_seen, bytes_refused, could_be, store_grown, store_cut, runs_all, runs_less}
use Rattle.store_growing.proofs.growing.grow_image.Goals as goal

pub returns-in_err-see-clause-runs : goal.returns-in_err-see-clause-runs
returns-in_err-see-clause-runs g c =
    runs_less c.args.routes.now 2 (g.D.Disk.state c.args.disk.now) (g.D.Disk.state c.see.new.disk) (omega arith) c.see.ensures.runs

pub returns-in_err-there-clause-runs : goal.returns-in_err-there-clause-runs
returns-in_err-there-clause-runs g c =
    runs_less c.args.routes.now 2 (g.D.Disk.state c.args.disk.now) (g.D.Disk.state c.see.new.disk) (omega arith) c.see.ensures.runs

pub returns-in-Ok-clause-runs : goal.returns-in-Ok-clause-runs
returns-in-Ok-clause-runs g c =
    runs_all c.args.routes.now (g.D.Disk.state c.args.disk.now) (g.D.Disk.state c.see.new.disk) (g.D.Disk.state c.write_lacking.new.disk)
    c.see.ensures.runs c.write_lacking.ensures.runs

pub returns-in-Err-clause-runs : goal.returns-in-Err-clause-runs
returns-in-Err-clause-runs g c =
    runs_all c.args.routes.now (g.D.Disk.state c.args.disk.now) (g.D.Disk.state c.see.new.disk) (g.D.Disk.state c.write_lacking.new.disk)
    c.see.ensures.runs c.write_lacking.ensures.runs

pub returns-in-Err-clause-refused : goal.returns-in-Err-clause-refused
returns-in-Err-clause-refused g c = (
  subst (λ (n : ℕ). Rose n (g.D.Disk.state c.write_lacking.new.disk).faults) c.in_ok-see.ensures.faults c.in-Err.ensures.failed,
  store_cut c.args.routes.now c.in_ok-there.there c.see.new.image (g.D.Disk.state c.args.disk.now)
      (g.D.Disk.state c.see.new.disk) (g.D.Disk.state c.write_lacking.new.disk) c.see.ensures.same c.in_ok-see.ensures.sees c.in_ok-see.ensures.fits.version
      c.in_ok-there.ensures.found c.in-Err.ensures.cut,
)

pub returns-in_err-see-clause-refused : goal.returns-in_err-see-clause-refused
returns-in_err-see-clause-refused g c =
    let p = err_from_is_err_and c.from_residual.result c.from_residual.ensures.1 in
    rw (p.1, p.2) (not_seen c.args.wanted c.args.routes.now (g.D.Disk.state c.args.disk.now) (g.D.Disk.state c.see.new.disk) _
    (omega (arith, c.requires.room, c.requires.sized)) c.in_err-see.ensures.refused)

pub returns-in_err-there-clause-refused : goal.returns-in_err-there-clause-refused
returns-in_err-there-clause-refused g c =
    let p = err_from_is_err_and c.from_residual-in_err-there.result c.from_residual-in_err-there.ensures.1 in
    let before : AsBefore 2 (g.D.Disk.state c.args.disk.now) (g.D.Disk.state c.see.new.disk) =
    record { runs = c.see.ensures.runs; told = c.see.ensures.same; faults = c.in_ok-see.ensures.faults } in
    rw (p.1, p.2) (bytes_refused c.args.wanted c.args.routes.now (g.D.Disk.state c.args.disk.now) (g.D.Disk.state c.see.new.disk) c.see.new.image
    (omega (arith, c.requires.room, c.requires.sized)) c.in_ok-see.ensures.sees c.in_ok-see.ensures.fits _ before c.in_err-there.ensures.refused)

pub returns-in-Ok-clause-could : goal.returns-in-Ok-clause-could
returns-in-Ok-clause-could g c =
    could_be c.args.wanted c.args.routes.now (g.D.Disk.state c.args.disk.now) c.see.new.image c.in_ok-there.there (omega (arith, c.requires.room, c.requires.sized))
    c.in_ok-see.ensures.sees c.in_ok-see.ensures.fits c.in_ok-there.ensures.found

pub returns-in-Ok-clause-grown : goal.returns-in-Ok-clause-grown
returns-in-Ok-clause-grown g c =
    store_grown c.args.routes.now c.in_ok-there.there c.see.new.image (g.D.Disk.state c.args.disk.now)
    (g.D.Disk.state c.see.new.disk) (g.D.Disk.state c.write_lacking.new.disk) c.see.ensures.same c.in_ok-see.ensures.sees c.in_ok-see.ensures.fits.version
    c.in_ok-there.ensures.found c.in-Ok.ensures.written
