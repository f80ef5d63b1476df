use Rattle.std.proofs.Common.{◌≡◌, ◌∙◌, length, arith, refl, ap, subst}
use Rattle.cell_store.proofs.TwinSteps.{whole-items, leaves-runs, cut-runs, cut-store, cut-grows, cut-stands, cut-settled, cut-never, cut-first, cut-cause}
use Rattle.cut_disk.specs.Images.{CutsTo}
use Rattle.cell_store.specs.Cells.{CellsState}
use Rattle.cell_store.specs.Reading.{CutStays}
use Rattle.cell_store.specs.ReadOrder.{twin_reads, twin_reads_to}
use Rattle.cell_store.proofs.ReadingLaws.{no_stop-cut, leaves-told, leaves-stops, cut-stays, cut-leaves}
use Rattle.cell_store.proofs.twin.TwinCellsCutCells.power_cut.Goals as goal

pub invariant_of-self : goal.invariant_of-self
invariant_of-self g c =
    let e = whole-items c.self.inside.reread.len c.read_store.new.held c.self.inside.reread.items (omega arith) (omega arith) in
    rw (c.swap.ensures.x_after, c.swap.ensures.y_after, e)
    (cut-store c.self.inside.version (g.D.Disk.state c.self.inside.disk) (g.D.Disk.state c.power_cut.new.self) (g.D.Disk.state c.read_store.new.disk) c.self.inside.held.items c.read_store.new.held (length c.self.inside.reread.items) c.self.inside.broken c.args.torn c.args.self.now c.self.view_is c.self.invariant c.power_cut.ensures.call c.power_cut.ensures.left
    (omega arith) (rw c.deref_mut.ensures.value at c.in-Ok.ensures.same) c.in-Ok.ensures.keeps)

pub returns-in-Ok-clause-disk : goal.returns-in-Ok-clause-disk
returns-in-Ok-clause-disk g c =
    record {
      runs = cut-runs c.self.inside.version (g.D.Disk.state c.self.inside.disk) (g.D.Disk.state c.power_cut.new.self) (g.D.Disk.state c.read_store.new.disk) c.self.inside.held.items c.read_store.new.held (length c.self.inside.reread.items) c.self.inside.broken c.args.torn c.args.self.now c.self.view_is c.self.invariant c.power_cut.ensures.call c.power_cut.ensures.left (rw c.deref_mut.ensures.value at c.in-Ok.ensures.same).runs;
      image = subst (λ (x : CellsState). CutsTo x.disk.told (g.D.Disk.state c.read_store.new.disk).told) c.self.view_is
          (rw c.in-Ok.ensures.same.told c.power_cut.ensures.left);
      stays = subst (λ (x : CellsState). CutStays c.args.torn x.disk (g.D.Disk.state c.read_store.new.disk)) c.self.view_is
          (cut-stays c.power_cut.ensures.call (rw c.deref_mut.ensures.value at c.in-Ok.ensures.same));
      stops = c.in-Ok.ensures.same.stops (no_stop-cut (g.D.Disk.state c.self.inside.disk).arms (g.D.Disk.state c.power_cut.new.self).arms c.power_cut.ensures.arms);
    }

pub returns-in-Ok-clause-reread : goal.returns-in-Ok-clause-reread
returns-in-Ok-clause-reread g c =
    record {
      grows = cut-grows c.self.inside.version (g.D.Disk.state c.self.inside.disk) (g.D.Disk.state c.power_cut.new.self) (g.D.Disk.state c.read_store.new.disk) c.self.inside.held.items c.read_store.new.held (length c.self.inside.reread.items) c.self.inside.broken c.args.torn c.args.self.now c.self.view_is c.self.invariant c.power_cut.ensures.call c.power_cut.ensures.left
          (omega arith) (rw c.deref_mut.ensures.value at c.in-Ok.ensures.same) c.in-Ok.ensures.keeps;
      faults = subst (λ (x : CellsState). (g.D.Disk.state c.read_store.new.disk).faults ≡ x.disk.faults) c.self.view_is (c.in-Ok.ensures.same.faults ∙ c.power_cut.ensures.count);
      whole = refl;
      stands = let e = whole-items c.self.inside.reread.len c.read_store.new.held c.self.inside.reread.items (omega arith) (omega arith) in
          rw (c.swap.ensures.x_after, e)
          (cut-stands c.self.inside.version (g.D.Disk.state c.self.inside.disk) (g.D.Disk.state c.power_cut.new.self) (g.D.Disk.state c.read_store.new.disk) c.self.inside.held.items c.read_store.new.held (length c.self.inside.reread.items) c.self.inside.broken c.args.torn c.args.self.now c.self.view_is c.self.invariant c.power_cut.ensures.call c.power_cut.ensures.left
          (omega arith) (rw c.deref_mut.ensures.value at c.in-Ok.ensures.same) c.in-Ok.ensures.keeps);
      settled = let e = whole-items c.self.inside.reread.len c.read_store.new.held c.self.inside.reread.items (omega arith) (omega arith) in
          rw (c.swap.ensures.x_after, e)
          (cut-settled c.self.inside.version (g.D.Disk.state c.self.inside.disk) (g.D.Disk.state c.power_cut.new.self) (g.D.Disk.state c.read_store.new.disk) c.self.inside.held.items c.read_store.new.held (length c.self.inside.reread.items) c.self.inside.broken c.args.torn c.args.self.now c.self.view_is c.self.invariant c.power_cut.ensures.call c.power_cut.ensures.left
          (omega arith) (rw c.deref_mut.ensures.value at c.in-Ok.ensures.same) c.in-Ok.ensures.keeps);
    }

pub returns-in-Err-clause-disk : goal.returns-in-Err-clause-disk
returns-in-Err-clause-disk g c =
    record {
      runs = cut-runs c.self.inside.version (g.D.Disk.state c.self.inside.disk) (g.D.Disk.state c.power_cut.new.self) (g.D.Disk.state c.read_store.new.disk) c.self.inside.held.items c.read_store.new.held (length c.self.inside.reread.items) c.self.inside.broken c.args.torn c.args.self.now c.self.view_is c.self.invariant c.power_cut.ensures.call c.power_cut.ensures.left
          (leaves-runs (twin_reads (length c.self.inside.reread.items)) twin_reads_to _ _ c.in-Err.fault (rw c.deref_mut.ensures.value at c.in-Err.ensures.leaves));
      image = subst (λ (x : CellsState). CutsTo x.disk.told (g.D.Disk.state c.read_store.new.disk).told) c.self.view_is
          (rw (leaves-told (twin_reads (length c.self.inside.reread.items)) twin_reads_to (g.D.Disk.state c.power_cut.new.self) (g.D.Disk.state c.read_store.new.disk) c.in-Err.fault (rw c.deref_mut.ensures.value at c.in-Err.ensures.leaves)) c.power_cut.ensures.left);
      stays = subst (λ (x : CellsState). CutStays c.args.torn x.disk (g.D.Disk.state c.read_store.new.disk)) c.self.view_is
          (cut-leaves (twin_reads (length c.self.inside.reread.items)) twin_reads_to (g.D.Disk.state c.self.inside.disk) (g.D.Disk.state c.power_cut.new.self) (g.D.Disk.state c.read_store.new.disk) c.in-Err.fault
          c.power_cut.ensures.call (rw c.deref_mut.ensures.value at c.in-Err.ensures.leaves));
      stops = leaves-stops (twin_reads (length c.self.inside.reread.items)) twin_reads_to (g.D.Disk.state c.power_cut.new.self) (g.D.Disk.state c.read_store.new.disk) c.in-Err.fault (rw c.deref_mut.ensures.value at c.in-Err.ensures.leaves)
          (no_stop-cut (g.D.Disk.state c.self.inside.disk).arms (g.D.Disk.state c.power_cut.new.self).arms c.power_cut.ensures.arms);
    }

pub returns-in-Err-clause-refused : goal.returns-in-Err-clause-refused
returns-in-Err-clause-refused g c =
    record {
      kept = ap (λ (s : CellsState). s.cells) c.self.view_is;
      broken = refl;
      cause = cut-cause c.self.inside.version (g.D.Disk.state c.self.inside.disk) (g.D.Disk.state c.power_cut.new.self) (g.D.Disk.state c.read_store.new.disk) c.self.inside.held.items c.read_store.new.held (length c.self.inside.reread.items) c.self.inside.broken c.args.torn c.args.self.now c.self.view_is c.self.invariant c.power_cut.ensures.call c.power_cut.ensures.left c.in-Err.fault (rw c.deref_mut.ensures.value at c.in-Err.ensures.leaves) (rw c.deref_mut.ensures.value at c.in-Err.ensures.finds) c.power_cut.ensures.count;
      first = cut-first c.self.inside.version (g.D.Disk.state c.self.inside.disk) (g.D.Disk.state c.power_cut.new.self) (g.D.Disk.state c.read_store.new.disk) c.self.inside.held.items c.read_store.new.held (length c.self.inside.reread.items) c.self.inside.broken c.args.torn c.args.self.now c.self.view_is c.self.invariant c.power_cut.ensures.call c.power_cut.ensures.left c.in-Err.fault (rw c.deref_mut.ensures.value at c.in-Err.ensures.leaves);
      never = λ stood. cut-never c.self.inside.version (g.D.Disk.state c.self.inside.disk) (g.D.Disk.state c.power_cut.new.self) (g.D.Disk.state c.read_store.new.disk) c.self.inside.held.items c.read_store.new.held (length c.self.inside.reread.items) c.self.inside.broken c.args.torn c.args.self.now c.self.view_is c.self.invariant c.power_cut.ensures.call c.power_cut.ensures.left c.in-Err.fault (rw c.deref_mut.ensures.value at c.in-Err.ensures.finds) stood;
    }
