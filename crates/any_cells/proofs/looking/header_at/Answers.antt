use Rattle.std.proofs.Common.{arith, sym, subst}
use Rattle.cell_store.specs.declared.faults.StoreFault.{StoreFault}
use Rattle.cell_store.specs.Attaching.{NotProbed}
use Rattle.cell_store.specs.Reading.{ReadOnly}
use Rattle.cell_store.proofs.CallerLemmas.{reads_more, reads_none}
use Rattle.any_cells.proofs.LookingLaws.{short-probe}
use Rattle.any_cells.proofs.looking.header_at.Goals as goal

pub returns-in-Err-TooSmall-clause-found : goal.returns-in-Err-TooSmall-clause-found
returns-in-Err-TooSmall-clause-found g c = λ t told.
    let small = subst (λ (f : StoreFault). NotProbed c.args.version (g.D.Disk.state c.args.disk.now) (g.D.Disk.state c.probe_as.new.disk) f) c.in-Err-TooSmall.field-0-is (c.in-Err-TooSmall.ensures.refused) in
    let sized = (g.met.D.Disk.is_disk c.args.disk.now).bytes_sized t told in
    short-probe c.args.version t.bytes (omega (arith, small.0, sized))

pub returns-in-Err-TooSmall-clause-as_before : goal.returns-in-Err-TooSmall-clause-as_before
returns-in-Err-TooSmall-clause-as_before g c =
    let small = subst (λ (f : StoreFault). NotProbed c.args.version (g.D.Disk.state c.args.disk.now) (g.D.Disk.state c.probe_as.new.disk) f) c.in-Err-TooSmall.field-0-is (c.in-Err-TooSmall.ensures.refused) in
    subst (λ s. ReadOnly 1 (g.D.Disk.state c.args.disk.now) s) (sym small.1) (reads_more 1 (omega arith) (reads_none (g.D.Disk.state c.args.disk.now)))
