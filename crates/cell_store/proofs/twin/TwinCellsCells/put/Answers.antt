use Rattle.std.proofs.Common.{◌≡◌, ◌+◌, [], length, arith, refl, ap, subst, ◌∙◌}
use Rattle.cut_disk.specs.Calls.{Rose, Runs}
use Rattle.cell_store.specs.Cells.{CellsState}
use Rattle.cell_store.proofs.TwinSteps.{code-gate, code-store, code-cells, code-settled, code-done, code-images, code-besides, code-failed}
use Rattle.cell_store.proofs.twin.TwinCellsCells.put.Goals as goal

pub write_copy-requires-clause-gate : goal.write_copy-requires-clause-gate
write_copy-requires-clause-gate g c t h =
    code-gate c.self.inside.version (g.D.Disk.state c.self.inside.disk) (g.D.Disk.state c.self.inside.disk) c.self.inside.held.items (length c.self.inside.reread.items) c.args.cell c.self.inside.broken c.index-old.result.now c.args.bytes.now c.args.self.now c.other-side.result c.next-mark.result (c.base.result + c.copy_place.result)
    c.self.view_is c.requires.whole c.self.invariant c.requires.cell c.index-old.ensures (omega arith) c.other-side.ensures c.next-mark.ensures (omega (arith, c.base.ensures, c.copy_place.ensures)) t h

pub invariant_of-self : goal.invariant_of-self
invariant_of-self g c =
    code-store c.self.inside.version (g.D.Disk.state c.self.inside.disk) (g.D.Disk.state c.write_copy.new.disk) c.self.inside.held.items (length c.self.inside.reread.items) c.args.cell c.self.inside.broken c.index-old.result.now c.args.bytes.now c.args.self.now c.other-side.result c.next-mark.result (c.base.result + c.copy_place.result)
    c.self.view_is c.requires.whole c.self.invariant c.requires.cell c.index-old.ensures (omega arith) c.other-side.ensures c.next-mark.ensures (omega (arith, c.base.ensures, c.copy_place.ensures))
    c.write_copy.ensures.runs.size c.write_copy.ensures.runs.tells c.in-Ok.ensures.written

pub returns-in-Ok-clause-put : goal.returns-in-Ok-clause-put
returns-in-Ok-clause-put g c =
    record {
      layout = ap (λ (s : CellsState). s.layout) c.self.view_is;
      runs = subst (λ (s : CellsState). Runs [] 6 s.disk (g.D.Disk.state c.write_copy.new.disk)) c.self.view_is c.write_copy.ensures.runs;
      besides = code-besides c.self.inside.version (g.D.Disk.state c.self.inside.disk) (g.D.Disk.state c.write_copy.new.disk) c.self.inside.held.items (length c.self.inside.reread.items) c.args.cell c.self.inside.broken c.index-old.result.now c.args.bytes.now c.args.self.now c.other-side.result c.next-mark.result (c.base.result + c.copy_place.result) c.self.view_is c.requires.whole c.self.invariant c.requires.cell c.index-old.ensures (omega arith) c.other-side.ensures c.next-mark.ensures (omega (arith, c.base.ensures, c.copy_place.ensures)) c.in-Ok.ensures.written;
      faults = subst (λ (s : CellsState). (g.D.Disk.state c.write_copy.new.disk).faults ≡ s.disk.faults) c.self.view_is c.in-Ok.ensures.faults;
      cells = code-cells c.self.inside.version (g.D.Disk.state c.self.inside.disk) (g.D.Disk.state c.write_copy.new.disk) c.self.inside.held.items (length c.self.inside.reread.items) c.args.cell c.self.inside.broken c.index-old.result.now c.args.bytes.now c.args.self.now c.other-side.result c.next-mark.result (c.base.result + c.copy_place.result) c.self.view_is c.requires.whole c.self.invariant c.requires.cell c.index-old.ensures (omega arith) c.other-side.ensures c.next-mark.ensures (omega (arith, c.base.ensures, c.copy_place.ensures));
      whole = ap (λ (s : CellsState). s.broken) c.self.view_is ∙ c.requires.whole;
      settled = code-settled c.self.inside.version (g.D.Disk.state c.self.inside.disk) (g.D.Disk.state c.write_copy.new.disk) c.self.inside.held.items (length c.self.inside.reread.items) c.args.cell c.self.inside.broken c.index-old.result.now c.args.bytes.now c.args.self.now c.other-side.result c.next-mark.result (c.base.result + c.copy_place.result) c.self.view_is c.requires.whole c.self.invariant c.requires.cell c.index-old.ensures (omega arith) c.other-side.ensures c.next-mark.ensures (omega (arith, c.base.ensures, c.copy_place.ensures)) c.in-Ok.ensures.written;
      done = code-done c.self.inside.version (g.D.Disk.state c.self.inside.disk) (g.D.Disk.state c.write_copy.new.disk) c.self.inside.held.items (length c.self.inside.reread.items) c.args.cell c.self.inside.broken c.index-old.result.now c.args.bytes.now c.args.self.now c.other-side.result c.next-mark.result (c.base.result + c.copy_place.result) c.self.view_is c.requires.whole c.self.invariant c.requires.cell c.index-old.ensures (omega arith) c.other-side.ensures c.next-mark.ensures (omega (arith, c.base.ensures, c.copy_place.ensures)) c.in-Ok.ensures.written;
    }

pub returns-in-Err-clause-failed : goal.returns-in-Err-clause-failed
returns-in-Err-clause-failed g c =
    record {
      layout = ap (λ (s : CellsState). s.layout) c.self.view_is;
      runs = subst (λ (s : CellsState). Runs [] 6 s.disk (g.D.Disk.state c.write_copy.new.disk)) c.self.view_is c.write_copy.ensures.runs;
      besides = code-failed c.self.inside.version (g.D.Disk.state c.self.inside.disk) (g.D.Disk.state c.write_copy.new.disk) c.self.inside.held.items (length c.self.inside.reread.items) c.args.cell c.self.inside.broken c.index-old.result.now c.args.bytes.now c.args.self.now c.other-side.result c.next-mark.result (c.base.result + c.copy_place.result) c.self.view_is c.requires.whole c.self.invariant c.requires.cell c.index-old.ensures (omega arith) c.other-side.ensures c.next-mark.ensures (omega (arith, c.base.ensures, c.copy_place.ensures)) c.in-Err.ensures.torn;
      failed = subst (λ (s : CellsState). Rose s.disk.faults (g.D.Disk.state c.write_copy.new.disk).faults) c.self.view_is c.in-Err.ensures.failed;
      kept = ap (λ (s : CellsState). s.cells) c.self.view_is;
      broken = refl;
      images = code-images c.self.inside.version (g.D.Disk.state c.self.inside.disk) (g.D.Disk.state c.write_copy.new.disk) c.self.inside.held.items (length c.self.inside.reread.items) c.args.cell c.self.inside.broken c.index-old.result.now c.args.bytes.now c.args.self.now c.other-side.result c.next-mark.result (c.base.result + c.copy_place.result) c.self.view_is c.requires.whole c.self.invariant c.requires.cell c.index-old.ensures (omega arith) c.other-side.ensures c.next-mark.ensures (omega (arith, c.base.ensures, c.copy_place.ensures)) c.in-Err.ensures.torn;
    }
