use Rattle.std.proofs.Common.{ap, subst, ◌∙◌}
use Rattle.cell_store.specs.Cells.{CellsState}
use Rattle.cell_store.specs.ReadOrder.{reads, reads_to}
use Rattle.cell_store.specs.Attaching.{Attached, NotAttached}
use Rattle.any_cells.specs.Either.{layout, any_state}
use Rattle.bus_world.proofs.AttachLaws.{attached_to, not_attached_cells, not_attached_store}
use Rattle.bus_world.proofs.opening.attach.Goals as goal

pub returns-in-Ok-attach-clause-opened : goal.returns-in-Ok-attach-clause-opened
returns-in-Ok-attach-clause-opened g c =
    attached_to c.args.kind c.args.version c.args.config (g.D.Disk.state c.args.disk) (any_state c.in-Ok.cells) c.in-Ok-attach.node
    (subst (λ k. Attached (layout c.args.kind c.args.version) (reads c.args.kind k) k (g.D.Disk.state c.args.disk) (any_state c.in-Ok.cells)) c.cells_of.ensures.cells c.in-Ok.ensures.attached)
    c.in-Ok-attach.ensures.up c.in-Ok-attach.ensures.kept c.in-Ok-attach.ensures.store c.in-Ok-attach.ensures.sound c.in-Ok-attach.ensures.fits

pub returns-in-Err-attach-clause-refused : goal.returns-in-Err-attach-clause-refused
returns-in-Err-attach-clause-refused g c =
    rw c.attach_fault.ensures
    (not_attached_cells c.args.kind c.args.version c.args.config (g.D.Disk.state c.args.disk) (g.D.Disk.state c.release.result) (any_state c.in-Ok.cells)
    (subst (λ k. Attached (layout c.args.kind c.args.version) (reads c.args.kind k) k (g.D.Disk.state c.args.disk) (any_state c.in-Ok.cells)) c.cells_of.ensures.cells c.in-Ok.ensures.attached)
    (c.release.ensures ∙ ap (λ (s : CellsState). s.disk) c.in-Err-attach.ensures.handed_back)
    c.in-Err-attach.refused.fault c.in-Err-attach.ensures.cause)

pub returns-in-Err-clause-refused : goal.returns-in-Err-clause-refused
returns-in-Err-clause-refused g c =
    rw c.open_fault.ensures
    (not_attached_store c.args.kind c.args.version c.args.config (g.D.Disk.state c.args.disk) (g.D.Disk.state c.in-Err.unread.disk) c.in-Err.unread.fault c.requires.1
    (subst (λ k. NotAttached (layout c.args.kind c.args.version) (reads c.args.kind k) (reads_to c.args.kind k) k (g.D.Disk.state c.args.disk) (g.D.Disk.state c.in-Err.unread.disk) c.in-Err.unread.fault)
    c.cells_of.ensures.cells c.in-Err.ensures.refused))
