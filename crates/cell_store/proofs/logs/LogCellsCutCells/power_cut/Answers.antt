use Rattle.std.proofs.Common.{◌≡◌, ◌∙◌, length, arith, refl, ap, subst}
use Rattle.cell_store.proofs.TwinSteps.{whole-items, leaves-runs}
use Rattle.cell_store.proofs.LogSteps.{log-cut-runs, log-cut-store, log-cut-grows, log-cut-stands, log-cut-settled, log-cut-cause, log-cut-never, log-cut-first}
use Rattle.cut_disk.specs.Images.{CutsTo}
use Rattle.cell_store.specs.Cells.{CellsState}
use Rattle.cell_store.specs.Reading.{CutStays}
use Rattle.cell_store.specs.ReadOrder.{log_reads, log_reads_to}
use Rattle.cell_store.proofs.ReadingLaws.{no_stop-cut, leaves-told, leaves-stops, cut-stays, cut-leaves}
use Rattle.cell_store.proofs.logs.LogCellsCutCells.power_cut.Goals as goal

pub invariant_of-self : goal.invariant_of-self
invariant_of-self g c =
    let e = whole-items c.self.inside.reread.len c.read_log.new.cells c.self.inside.reread.items (omega arith) (omega arith) in
    rw (c.swap.ensures.x_after, c.swap.ensures.y_after, e)
    (log-cut-store c.self.inside.version (g.D.Disk.state c.self.inside.disk) (g.D.Disk.state c.power_cut.new.self) (g.D.Disk.state c.read_log.new.disk) c.self.inside.cells.items c.read_log.new.cells (length c.self.inside.reread.items) (length c.self.inside.space.items) c.self.inside.bank c.in-Ok.bank c.self.inside.broken c.args.torn c.args.self.now c.self.view_is c.self.invariant c.power_cut.ensures.call c.power_cut.ensures.left (omega arith) (rw c.deref_mut.ensures.value at c.in-Ok.ensures.same) (rw c.deref_mut.ensures.value at c.in-Ok.ensures.keeps) _ (omega arith))

pub returns-in-Ok-clause-disk : goal.returns-in-Ok-clause-disk
returns-in-Ok-clause-disk g c =
    record {
      runs = log-cut-runs c.self.inside.version (g.D.Disk.state c.self.inside.disk) (g.D.Disk.state c.power_cut.new.self) (g.D.Disk.state c.read_log.new.disk) c.self.inside.cells.items c.read_log.new.cells (length c.self.inside.reread.items) (length c.self.inside.space.items) c.self.inside.bank c.in-Ok.bank c.self.inside.broken c.args.torn c.args.self.now c.self.view_is c.self.invariant c.power_cut.ensures.call c.power_cut.ensures.left (rw c.deref_mut.ensures.value at c.in-Ok.ensures.same).runs;
      image = subst (λ (x : CellsState). CutsTo x.disk.told (g.D.Disk.state c.read_log.new.disk).told) c.self.view_is
          (rw c.in-Ok.ensures.same.told c.power_cut.ensures.left);
      stays = subst (λ (x : CellsState). CutStays c.args.torn x.disk (g.D.Disk.state c.read_log.new.disk)) c.self.view_is
          (cut-stays c.power_cut.ensures.call (rw c.deref_mut.ensures.value at c.in-Ok.ensures.same));
      stops = c.in-Ok.ensures.same.stops (no_stop-cut (g.D.Disk.state c.self.inside.disk).arms (g.D.Disk.state c.power_cut.new.self).arms c.power_cut.ensures.arms);
    }

pub returns-in-Ok-clause-reread : goal.returns-in-Ok-clause-reread
returns-in-Ok-clause-reread g c =
    record {
      grows = log-cut-grows c.self.inside.version (g.D.Disk.state c.self.inside.disk) (g.D.Disk.state c.power_cut.new.self) (g.D.Disk.state c.read_log.new.disk) c.self.inside.cells.items c.read_log.new.cells (length c.self.inside.reread.items) (length c.self.inside.space.items) c.self.inside.bank c.in-Ok.bank c.self.inside.broken c.args.torn c.args.self.now c.self.view_is c.self.invariant c.power_cut.ensures.call c.power_cut.ensures.left (omega arith) (rw c.deref_mut.ensures.value at c.in-Ok.ensures.same) (rw c.deref_mut.ensures.value at c.in-Ok.ensures.keeps);
      faults = subst (λ (x : CellsState). (g.D.Disk.state c.read_log.new.disk).faults ≡ x.disk.faults) c.self.view_is (c.in-Ok.ensures.same.faults ∙ c.power_cut.ensures.count);
      whole = refl;
      stands = let e = whole-items c.self.inside.reread.len c.read_log.new.cells c.self.inside.reread.items (omega arith) (omega arith) in
          rw (c.swap.ensures.x_after, e)
          (log-cut-stands c.self.inside.version (g.D.Disk.state c.self.inside.disk) (g.D.Disk.state c.power_cut.new.self) (g.D.Disk.state c.read_log.new.disk) c.self.inside.cells.items c.read_log.new.cells (length c.self.inside.reread.items) (length c.self.inside.space.items) c.self.inside.bank c.in-Ok.bank c.self.inside.broken c.args.torn c.args.self.now c.self.view_is c.self.invariant c.power_cut.ensures.call c.power_cut.ensures.left (omega arith) (rw c.deref_mut.ensures.value at c.in-Ok.ensures.same) (rw c.deref_mut.ensures.value at c.in-Ok.ensures.keeps));
      settled = let e = whole-items c.self.inside.reread.len c.read_log.new.cells c.self.inside.reread.items (omega arith) (omega arith) in
          rw (c.swap.ensures.x_after, e)
          (log-cut-settled c.self.inside.version (g.D.Disk.state c.self.inside.disk) (g.D.Disk.state c.power_cut.new.self) (g.D.Disk.state c.read_log.new.disk) c.self.inside.cells.items c.read_log.new.cells (length c.self.inside.reread.items) (length c.self.inside.space.items) c.self.inside.bank c.in-Ok.bank c.self.inside.broken c.args.torn c.args.self.now c.self.view_is c.self.invariant c.power_cut.ensures.call c.power_cut.ensures.left (omega arith) (rw c.deref_mut.ensures.value at c.in-Ok.ensures.same) (rw c.deref_mut.ensures.value at c.in-Ok.ensures.keeps));
    }

pub returns-in-Err-clause-disk : goal.returns-in-Err-clause-disk
returns-in-Err-clause-disk g c =
    record {
      runs = log-cut-runs c.self.inside.version (g.D.Disk.state c.self.inside.disk) (g.D.Disk.state c.power_cut.new.self) (g.D.Disk.state c.read_log.new.disk) c.self.inside.cells.items c.read_log.new.cells (length c.self.inside.reread.items) (length c.self.inside.space.items) c.self.inside.bank c.self.inside.bank c.self.inside.broken c.args.torn c.args.self.now c.self.view_is c.self.invariant c.power_cut.ensures.call c.power_cut.ensures.left
          (leaves-runs (log_reads (length c.self.inside.reread.items)) (log_reads_to (length c.self.inside.reread.items)) _ _ c.in-Err.fault (rw c.deref_mut.ensures.value at c.in-Err.ensures.leaves));
      image = subst (λ (x : CellsState). CutsTo x.disk.told (g.D.Disk.state c.read_log.new.disk).told) c.self.view_is
          (rw (leaves-told (log_reads (length c.self.inside.reread.items)) (log_reads_to (length c.self.inside.reread.items)) (g.D.Disk.state c.power_cut.new.self) (g.D.Disk.state c.read_log.new.disk) c.in-Err.fault (rw c.deref_mut.ensures.value at c.in-Err.ensures.leaves)) c.power_cut.ensures.left);
      stays = subst (λ (x : CellsState). CutStays c.args.torn x.disk (g.D.Disk.state c.read_log.new.disk)) c.self.view_is
          (cut-leaves (log_reads (length c.self.inside.reread.items)) (log_reads_to (length c.self.inside.reread.items)) (g.D.Disk.state c.self.inside.disk) (g.D.Disk.state c.power_cut.new.self) (g.D.Disk.state c.read_log.new.disk) c.in-Err.fault
          c.power_cut.ensures.call (rw c.deref_mut.ensures.value at c.in-Err.ensures.leaves));
      stops = leaves-stops (log_reads (length c.self.inside.reread.items)) (log_reads_to (length c.self.inside.reread.items)) (g.D.Disk.state c.power_cut.new.self) (g.D.Disk.state c.read_log.new.disk) c.in-Err.fault (rw c.deref_mut.ensures.value at c.in-Err.ensures.leaves)
          (no_stop-cut (g.D.Disk.state c.self.inside.disk).arms (g.D.Disk.state c.power_cut.new.self).arms c.power_cut.ensures.arms);
    }

pub returns-in-Err-clause-refused : goal.returns-in-Err-clause-refused
returns-in-Err-clause-refused g c =
    record {
      kept = ap (λ (s : CellsState). s.cells) c.self.view_is;
      broken = refl;
      cause = log-cut-cause c.self.inside.version (g.D.Disk.state c.self.inside.disk) (g.D.Disk.state c.power_cut.new.self) (g.D.Disk.state c.read_log.new.disk) c.self.inside.cells.items c.read_log.new.cells (length c.self.inside.reread.items) (length c.self.inside.space.items) c.self.inside.bank c.self.inside.bank c.self.inside.broken c.args.torn c.args.self.now c.self.view_is c.self.invariant c.power_cut.ensures.call c.power_cut.ensures.left c.in-Err.fault (rw c.deref_mut.ensures.value at c.in-Err.ensures.leaves) (rw c.deref_mut.ensures.value at c.in-Err.ensures.finds) c.power_cut.ensures.count;
      first = log-cut-first c.self.inside.version (g.D.Disk.state c.self.inside.disk) (g.D.Disk.state c.power_cut.new.self) (g.D.Disk.state c.read_log.new.disk) c.self.inside.cells.items c.read_log.new.cells (length c.self.inside.reread.items) (length c.self.inside.space.items) c.self.inside.bank c.self.inside.bank c.self.inside.broken c.args.torn c.args.self.now c.self.view_is c.self.invariant c.power_cut.ensures.call c.power_cut.ensures.left c.in-Err.fault (rw c.deref_mut.ensures.value at c.in-Err.ensures.leaves);
      never = λ stood. log-cut-never c.self.inside.version (g.D.Disk.state c.self.inside.disk) (g.D.Disk.state c.power_cut.new.self) (g.D.Disk.state c.read_log.new.disk) c.self.inside.cells.items c.read_log.new.cells (length c.self.inside.reread.items) (length c.self.inside.space.items) c.self.inside.bank c.self.inside.bank c.self.inside.broken c.args.torn c.args.self.now c.self.view_is c.self.invariant c.power_cut.ensures.call c.power_cut.ensures.left c.in-Err.fault (rw c.deref_mut.ensures.value at c.in-Err.ensures.finds) stood;
    }
