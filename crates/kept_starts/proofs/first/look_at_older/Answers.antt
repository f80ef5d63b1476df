use Rattle.std.proofs.Common.{ap, subst, ◌∙◌, arith}
use Rattle.cell_store.specs.Cells.{CellsState}
use Rattle.freshness_routes.specs.Config.{IsConfig}
use Rattle.any_cells.specs.Either.{any_state}
use Rattle.kept_starts.proofs.OlderLaws.{older_attached, older_cells, older_unread}
use Rattle.kept_starts.proofs.first.look_at_older.Goals as goal

pub returns-in-Ok-attach-clause-holds : goal.returns-in-Ok-attach-clause-holds
returns-in-Ok-attach-clause-holds g c =
    older_attached c.args.bus.now (g.D.Disk.state c.args.disk) _ _ c.kind.ensures c.cells_in_bus.ensures.cells c.in-Ok.config (c.in-Ok.ensures ∙ c.node_config.ensures.config)
    (any_state c.in-Ok-attach_as.cells) c.in-Ok-attach.node.node c.in-Ok-attach_as.ensures.attached c.in-Ok-attach.ensures.up c.in-Ok-attach.ensures.kept c.in-Ok-attach.ensures.sound

pub returns-in-Err-attach-clause-refused : goal.returns-in-Err-attach-clause-refused
returns-in-Err-attach-clause-refused g c =
    rw c.cells_fault-fault.ensures
    (older_cells c.args.bus.now (g.D.Disk.state c.args.disk) _ _ c.kind.ensures c.cells_in_bus.ensures.cells
    (record { some = omega (arith, c.cells_in_bus.ensures.cells); most = omega (arith, c.cells_in_bus.ensures.cells, c.cells_in_bus.ensures.most) })
    (subst IsConfig c.node_config.ensures.config c.node_config.ensures.good) c.requires.older c.in-Ok.config (c.in-Ok.ensures ∙ c.node_config.ensures.config)
    (any_state c.in-Ok-attach_as.cells) (g.D.Disk.state c.release-in-Err-attach.result) c.in-Ok-attach_as.ensures.attached
    (c.release-in-Err-attach.ensures ∙ ap (λ (s : CellsState). s.disk) c.in-Err-attach.ensures.handed_back) c.in-Err-attach.refused.fault c.in-Err-attach.ensures.cause)

pub returns-in-Err-clause-refused : goal.returns-in-Err-clause-refused
returns-in-Err-clause-refused g c =
    rw c.store_fault.ensures
    (older_unread c.args.bus.now (g.D.Disk.state c.args.disk) _ _ c.kind.ensures c.cells_in_bus.ensures.cells
    (record { some = omega (arith, c.cells_in_bus.ensures.cells); most = omega (arith, c.cells_in_bus.ensures.cells, c.cells_in_bus.ensures.most) })
    (subst IsConfig c.node_config.ensures.config c.node_config.ensures.good) c.requires.older c.requires.room
    (g.D.Disk.state c.in-Err.unread.disk) c.in-Err.unread.fault c.in-Err.ensures.refused)
