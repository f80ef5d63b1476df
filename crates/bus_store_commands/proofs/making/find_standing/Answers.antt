use Rattle.std.proofs.Common.{ap, ◌∙◌, subst, sym}
use Rattle.cell_store.specs.Cells.{CellsState}
use Rattle.cell_store.specs.ReadOrder.{reads, reads_to}
use Rattle.any_cells.specs.Either.{any_state}
use Rattle.freshness_routes.specs.Config.{IsConfig}
use Rattle.bus_store_commands.proofs.MakingStores.{copy_made, copy_cells, copy_unread}
use Rattle.bus_store_commands.proofs.making.find_standing.Goals as goal

pub returns-in-Ok-attach-clause-made : goal.returns-in-Ok-attach-clause-made
returns-in-Ok-attach-clause-made g c =
    copy_made c.args.kind c.args.version c.args.config.now c.in-Ok.config c.in-Ok.ensures _ c.cells_of.ensures.cells (g.D.Disk.state c.args.disk) c.requires.standing
    (reads c.args.kind) (g.D.Disk.state c.release-in-Ok-attach.result) (any_state c.in-Ok-attach_as.cells) (subst IsConfig (sym c.in-Ok.ensures) c.requires.config) c.in-Ok-attach_as.ensures.attached
    (c.release-in-Ok-attach.ensures ∙ ap (λ (s : CellsState). s.disk) (c.release.ensures ∙ c.in-Ok-attach.ensures.store)) c.in-Ok-attach.node.node
    c.in-Ok-attach.ensures.up c.in-Ok-attach.ensures.kept c.in-Ok-attach.ensures.sound

pub returns-in-Err-attach-clause-refused : goal.returns-in-Err-attach-clause-refused
returns-in-Err-attach-clause-refused g c =
    rw c.attach_fault.ensures
    (copy_cells c.args.kind c.args.version c.args.config.now c.in-Ok.config c.in-Ok.ensures _ c.cells_of.ensures.cells (g.D.Disk.state c.args.disk) c.requires.standing
    (reads c.args.kind) (g.D.Disk.state c.release-in-Err-attach.result) (any_state c.in-Ok-attach_as.cells) c.in-Ok-attach_as.ensures.attached
    (c.release-in-Err-attach.ensures ∙ ap (λ (s : CellsState). s.disk) c.in-Err-attach.ensures.handed_back) c.in-Err-attach.refused.fault c.in-Err-attach.ensures.cause)

pub returns-in-Err-clause-refused : goal.returns-in-Err-clause-refused
returns-in-Err-clause-refused g c =
    copy_unread c.args.kind c.args.version c.args.config.now c.in-Ok.config c.in-Ok.ensures _ c.cells_of.ensures.cells (g.D.Disk.state c.args.disk) c.requires.standing
    (reads c.args.kind) (reads_to c.args.kind) (g.D.Disk.state c.in-Err.unread.disk) c.in-Err.unread.fault c.in-Err.ensures.refused
