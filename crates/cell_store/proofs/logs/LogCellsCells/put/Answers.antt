use Rattle.std.proofs.Common.{◌≡◌, [], length, set, refl, ap, subst, ◌∙◌, arith}
use Rattle.cut_disk.specs.Calls.{Rose, Runs}
use Rattle.cell_store.specs.Cells.{CellsState}
use Rattle.cell_store.proofs.TwinSteps.{whole-items}
use Rattle.cell_store.proofs.LogSteps.{log-store, log-settled, log-done, log-images, log-besides}
use Rattle.cell_store.proofs.logs.LogCellsCells.put.Goals as goal

pub invariant_of-self : goal.invariant_of-self
invariant_of-self g c =
    let e = whole-items c.self.inside.space.len c.put_cell.new.space c.self.inside.space.items (omega arith) (omega arith) in
    log-store c.self.inside.version (g.D.Disk.state c.self.inside.disk) (g.D.Disk.state c.put_cell.new.disk) c.self.inside.cells.items (length c.self.inside.reread.items) (length c.self.inside.space.items) c.self.inside.bank c.in-Ok.bank c.self.inside.broken c.args.cell c.args.bytes.now c.args.self.now
    c.self.view_is c.requires.whole c.self.invariant c.requires.cell (rw c.deref.ensures.value at c.in-Ok.ensures.done) c.put_cell.ensures.runs.size c.put_cell.ensures.runs.tells _ (ap length e ∙ omega arith)

pub returns-in-Ok-clause-put : goal.returns-in-Ok-clause-put
returns-in-Ok-clause-put g c =
    record {
      layout = ap (λ (s : CellsState). s.layout) c.self.view_is;
      runs = subst (λ (s : CellsState). Runs [] 6 s.disk (g.D.Disk.state c.put_cell.new.disk)) c.self.view_is c.put_cell.ensures.runs;
      besides = log-besides c.self.inside.version (g.D.Disk.state c.self.inside.disk) (g.D.Disk.state c.put_cell.new.disk) c.self.inside.cells.items (length c.self.inside.reread.items) (length c.self.inside.space.items) c.self.inside.bank c.self.inside.bank c.self.inside.broken c.args.cell c.args.bytes.now c.args.self.now c.self.view_is c.requires.whole c.self.invariant c.requires.cell (rw c.deref.ensures.value at c.put_cell.ensures.besides);
      faults = subst (λ (s : CellsState). (g.D.Disk.state c.put_cell.new.disk).faults ≡ s.disk.faults) c.self.view_is c.in-Ok.ensures.faults;
      cells = ap (λ (s : CellsState). set s.cells c.args.cell c.args.bytes.now) c.self.view_is;
      whole = ap (λ (s : CellsState). s.broken) c.self.view_is ∙ c.requires.whole;
      settled = log-settled c.self.inside.version (g.D.Disk.state c.self.inside.disk) (g.D.Disk.state c.put_cell.new.disk) c.self.inside.cells.items (length c.self.inside.reread.items) (length c.self.inside.space.items) c.self.inside.bank c.in-Ok.bank c.self.inside.broken c.args.cell c.args.bytes.now c.args.self.now c.self.view_is c.requires.whole c.self.invariant c.requires.cell (rw c.deref.ensures.value at c.in-Ok.ensures.done);
      done = log-done c.self.inside.version (g.D.Disk.state c.self.inside.disk) (g.D.Disk.state c.put_cell.new.disk) c.self.inside.cells.items (length c.self.inside.reread.items) (length c.self.inside.space.items) c.self.inside.bank c.in-Ok.bank c.self.inside.broken c.args.cell c.args.bytes.now c.args.self.now c.self.view_is c.requires.whole c.self.invariant c.requires.cell (rw c.deref.ensures.value at c.in-Ok.ensures.done);
    }

pub returns-in-Err-clause-failed : goal.returns-in-Err-clause-failed
returns-in-Err-clause-failed g c =
    record {
      layout = ap (λ (s : CellsState). s.layout) c.self.view_is;
      runs = subst (λ (s : CellsState). Runs [] 6 s.disk (g.D.Disk.state c.put_cell.new.disk)) c.self.view_is c.put_cell.ensures.runs;
      besides = log-besides c.self.inside.version (g.D.Disk.state c.self.inside.disk) (g.D.Disk.state c.put_cell.new.disk) c.self.inside.cells.items (length c.self.inside.reread.items) (length c.self.inside.space.items) c.self.inside.bank c.self.inside.bank c.self.inside.broken c.args.cell c.args.bytes.now c.args.self.now c.self.view_is c.requires.whole c.self.invariant c.requires.cell (rw c.deref.ensures.value at c.put_cell.ensures.besides);
      failed = subst (λ (s : CellsState). Rose s.disk.faults (g.D.Disk.state c.put_cell.new.disk).faults) c.self.view_is c.in-Err.ensures.failed;
      kept = ap (λ (s : CellsState). s.cells) c.self.view_is;
      broken = refl;
      images = log-images c.self.inside.version (g.D.Disk.state c.self.inside.disk) (g.D.Disk.state c.put_cell.new.disk) c.self.inside.cells.items (length c.self.inside.reread.items) (length c.self.inside.space.items) c.self.inside.bank c.self.inside.bank c.self.inside.broken c.args.cell c.args.bytes.now c.args.self.now c.self.view_is c.requires.whole c.self.invariant c.requires.cell (rw c.deref.ensures.value at c.in-Err.ensures.images);
    }
