use Rattle.std.proofs.Common.{sym, subst, ◌∙◌, arith}
use Rattle.std.proofs.lemmas.Bool.{false≢true}
use Rattle.std.proofs.lemmas.Result.{IfOk-weaker, IfErr-weaker}
use Rattle.cell_store.specs.Attaching.{Probed}
use Rattle.any_cells.proofs.OpeningLaws.{opened-made, opened-found, not-probed, not-formed, made-not-attached, found-not-attached}
use Rattle.any_cells.proofs.opening.open_store.Goals as goal

pub returns-in-Err-clause-refused : goal.returns-in-Err-clause-refused
returns-in-Err-clause-refused g c =
    not-probed c.args.kind c.args.version c.args.cells.now (g.D.Disk.state c.args.disk) _ c.in-Err.fault
    (omega (arith, c.if-size-store_size.false, c.store_size.ensures, c.size.ensures)) c.in-Err.ensures.refused

pub returns-in-Ok-format_as-clause-opened : goal.returns-in-Ok-format_as-clause-opened
returns-in-Ok-format_as-clause-opened g c =
    let probed = subst (Probed c.args.version (g.D.Disk.state c.args.disk) (g.D.Disk.state c.probe_as.new.disk)) (c.is_blank.ensures.0 c.if-is_blank.true) c.in-Ok.ensures.probed in
    IfOk-weaker c.attach_as.result _ _
    (λ s attached. opened-made c.args.kind c.args.version c.args.cells.now (g.D.Disk.state c.args.disk) _ _ _ probed
    c.in-Ok-format_as.ensures.formatted.runs c.in-Ok-format_as.ensures.formatted.faults c.in-Ok-format_as.ensures.formatted.fresh attached)
    c.attach_as.ensures.attached

pub returns-in-Ok-format_as-clause-refused : goal.returns-in-Ok-format_as-clause-refused
returns-in-Ok-format_as-clause-refused g c =
    let probed = subst (Probed c.args.version (g.D.Disk.state c.args.disk) (g.D.Disk.state c.probe_as.new.disk)) (c.is_blank.ensures.0 c.if-is_blank.true) c.in-Ok.ensures.probed in
    IfErr-weaker c.attach_as.result _ _
    (λ r why. made-not-attached c.args.kind c.args.version c.args.cells.now (g.D.Disk.state c.args.disk) _ probed
    (omega (arith, c.if-size-store_size.false, c.store_size.ensures, c.size.ensures)) _ c.told-cells
    c.in-Ok-format_as.ensures.formatted.runs c.in-Ok-format_as.ensures.formatted.faults c.in-Ok-format_as.ensures.formatted.fresh _ r.fault why
    (λ t told. (g.met.D.Disk.is_disk c.args.disk).bytes_sized t told))
    c.attach_as.ensures.refused

pub returns-in-Err-format_as-clause-refused : goal.returns-in-Err-format_as-clause-refused
returns-in-Err-format_as-clause-refused g c =
    let probed = subst (Probed c.args.version (g.D.Disk.state c.args.disk) (g.D.Disk.state c.probe_as.new.disk)) (c.is_blank.ensures.0 c.if-is_blank.true) c.in-Ok.ensures.probed in
    not-formed c.args.kind c.args.version c.args.cells.now (g.D.Disk.state c.args.disk) _ probed
    (omega (arith, c.if-size-store_size.false, c.store_size.ensures, c.size.ensures)) _
    c.in-Err-format_as.refused.fault c.in-Err-format_as.ensures.refused

pub returns-clause-opened : goal.returns-clause-opened
returns-clause-opened g c =
    IfOk-weaker c.attach_as-2.result _ _
    (λ s attached. opened-found c.args.kind c.args.version c.args.cells.now (g.D.Disk.state c.args.disk) _ _ _ c.in-Ok.ensures.probed
    (λ blank. false≢true (sym c.if-is_blank.false ∙ c.is_blank.ensures.1 blank)) attached)
    c.attach_as-2.ensures.attached

pub returns-clause-refused : goal.returns-clause-refused
returns-clause-refused g c =
    IfErr-weaker c.attach_as-2.result _ _
    (λ r why. found-not-attached c.args.kind c.args.version c.args.cells.now (g.D.Disk.state c.args.disk) _ _ c.in-Ok.ensures.probed
    (omega (arith, c.if-size-store_size.false, c.store_size.ensures, c.size.ensures))
    (λ blank. false≢true (sym c.if-is_blank.false ∙ c.is_blank.ensures.1 blank)) _ r.fault why)
    c.attach_as-2.ensures.refused
