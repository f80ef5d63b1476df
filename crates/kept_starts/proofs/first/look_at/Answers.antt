use Rattle.std.proofs.Common.{subst}
use Rattle.disk_looks.specs.declared.looks.LookFault.{LookFault}
use Rattle.disk_looks.specs.Looks.{FailsLook}
use Rattle.kept_starts.proofs.OlderLaws.{failed_look, failed_memory, join_before, join_fails}
use Rattle.kept_starts.proofs.first.look_at.Goals as goal

pub returns-in-Ok-clause-as_before : goal.returns-in-Ok-clause-as_before
returns-in-Ok-clause-as_before g c =
    join_before c.args.bus.now (g.D.Disk.state c.args.disk) (g.D.Disk.state c.look_whole.new.disk) (g.D.Disk.state c.kept_as.result.0) c.in-Ok.ensures.as_before
    c.kept_as.result.1 c.kept_as.ensures.as_before

pub returns-in-Ok-clause-refused : goal.returns-in-Ok-clause-refused
returns-in-Ok-clause-refused g c =
    join_fails c.args.bus.now (g.D.Disk.state c.args.disk) (g.D.Disk.state c.look_whole.new.disk) (g.D.Disk.state c.kept_as.result.0) c.in-Ok.ensures.as_before
    c.kept_as.result.1 c.kept_as.ensures.refused

pub returns-in-Err-DiskFailed-clause-refused : goal.returns-in-Err-DiskFailed-clause-refused
returns-in-Err-DiskFailed-clause-refused g c =
    failed_look c.args.bus.now (g.D.Disk.state c.args.disk) (g.D.Disk.state c.look_whole.new.disk)
    (subst (λ (f : LookFault). FailsLook 3 (g.D.Disk.state c.args.disk) (g.D.Disk.state c.look_whole.new.disk) f) c.in-Err-DiskFailed.field-0-is c.in-Err-DiskFailed.ensures.refused)

pub returns-in-Err-Memory-clause-refused : goal.returns-in-Err-Memory-clause-refused
returns-in-Err-Memory-clause-refused g c =
    failed_memory c.args.bus.now (g.D.Disk.state c.args.disk) (g.D.Disk.state c.look_whole.new.disk)
    (subst (λ (f : LookFault). FailsLook 3 (g.D.Disk.state c.args.disk) (g.D.Disk.state c.look_whole.new.disk) f) c.in-Err-Memory.field-0-is c.in-Err-Memory.ensures.refused)
