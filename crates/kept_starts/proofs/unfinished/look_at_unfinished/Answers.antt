use Rattle.std.proofs.Common.{◌∙◌, ap, subst}
use Rattle.freshness_routes.specs.Config.{Config}
use Rattle.bus_world.specs.TakingUp.{new_cells}
use Rattle.disk_looks.specs.declared.looks.LookFault.{LookFault}
use Rattle.disk_looks.specs.Looks.{FailsLook}
use Rattle.kept_starts.proofs.LookedUnfinished.{neither_headless, one_look, one_failed, one_memory, begun_told, unbegun_fails}
use Rattle.kept_starts.proofs.unfinished.look_at_unfinished.Goals as goal

pub is_unfinished-requires-clause-headless : goal.is_unfinished-requires-clause-headless
is_unfinished-requires-clause-headless g c t tells = neither_headless _ _ _ t.bytes (c.requires.neither t tells)

pub returns-in-Ok-true-clause-as_before : goal.returns-in-Ok-true-clause-as_before
returns-in-Ok-true-clause-as_before g c = one_look c.args.bus.now (g.D.Disk.state c.args.disk) (g.D.Disk.state c.is_unfinished.new.disk) c.in-Ok-true.ensures.as_before

pub returns-in-Ok-true-clause-unfinished : goal.returns-in-Ok-true-clause-unfinished
returns-in-Ok-true-clause-unfinished g c =
    begun_told c.args.bus.now (g.D.Disk.state c.args.disk) (g.D.Disk.state c.is_unfinished.new.disk) c.kind.result c.version.result _ c.kind.ensures c.version.ensures
    (c.first_cells-count.ensures.cells ∙ ap (λ (k : Config). new_cells k) c.node_config.ensures.config) _ c.in-Ok-true.ensures.unfinished c.in-Ok-true.field-0-test

pub returns-in-Ok-false-clause-refused : goal.returns-in-Ok-false-clause-refused
returns-in-Ok-false-clause-refused g c =
    unbegun_fails c.args.bus.now (g.D.Disk.state c.args.disk) (g.D.Disk.state c.is_unfinished.new.disk) c.kind.result c.version.result _ c.kind.ensures c.version.ensures
    (c.first_cells-count.ensures.cells ∙ ap (λ (k : Config). new_cells k) c.node_config.ensures.config) _ c.in-Ok-false.ensures.unfinished c.in-Ok-false.field-0-test
    c.requires.neither c.in-Ok-false.ensures.as_before

pub returns-in-Err-DiskFailed-clause-refused : goal.returns-in-Err-DiskFailed-clause-refused
returns-in-Err-DiskFailed-clause-refused g c =
    one_failed c.args.bus.now (g.D.Disk.state c.args.disk) (g.D.Disk.state c.is_unfinished.new.disk)
    (subst (λ (f : LookFault). FailsLook 1 (g.D.Disk.state c.args.disk) (g.D.Disk.state c.is_unfinished.new.disk) f) c.in-Err-DiskFailed.field-0-is c.in-Err-DiskFailed.ensures.refused)

pub returns-in-Err-Memory-clause-refused : goal.returns-in-Err-Memory-clause-refused
returns-in-Err-Memory-clause-refused g c =
    one_memory c.args.bus.now (g.D.Disk.state c.args.disk) (g.D.Disk.state c.is_unfinished.new.disk)
    (subst (λ (f : LookFault). FailsLook 1 (g.D.Disk.state c.args.disk) (g.D.Disk.state c.is_unfinished.new.disk) f) c.in-Err-Memory.field-0-is c.in-Err-Memory.ensures.refused)
