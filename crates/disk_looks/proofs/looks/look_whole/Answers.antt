use Rattle.disk_looks.proofs.SeenLaws.{headers_only, headers_failed, then_bytes, then_failed, seen_zeros, seen_no_store}
use Rattle.disk_looks.proofs.looks.look_whole.Goals as goal

pub returns-in-Ok-Some-clause-as_before : goal.returns-in-Ok-Some-clause-as_before
returns-in-Ok-Some-clause-as_before g c =
    headers_only (g.D.Disk.state c.args.disk.now) (g.D.Disk.state c.header_on.new.disk) c.header_on.ensures.runs c.header_on.ensures.same c.in-Ok-Some.ensures.faults

pub returns-in-Ok-true-clause-seen : goal.returns-in-Ok-true-clause-seen
returns-in-Ok-true-clause-seen g c =
    seen_zeros c.args.kind c.args.version c.args.cells (g.D.Disk.state c.args.disk.now) (g.D.Disk.state c.header_on.new.disk) _
    c.header_on.ensures.same c.in-Ok-true.ensures.zeros c.in-Ok-true.field-0-test

pub returns-in-Ok-true-clause-as_before : goal.returns-in-Ok-true-clause-as_before
returns-in-Ok-true-clause-as_before g c =
    then_bytes (g.D.Disk.state c.args.disk.now) (g.D.Disk.state c.header_on.new.disk) (g.D.Disk.state c.is_zeroed.new.disk) c.header_on.ensures.runs
    c.header_on.ensures.same c.in-Ok-None.ensures.faults c.in-Ok-true.ensures.as_before

pub returns-in-Ok-false-clause-seen : goal.returns-in-Ok-false-clause-seen
returns-in-Ok-false-clause-seen g c =
    seen_no_store c.args.kind c.args.version c.args.cells (g.D.Disk.state c.args.disk.now) (g.D.Disk.state c.header_on.new.disk) _ _
    c.header_on.ensures.same c.in-Ok-None.ensures.stands c.in-Ok-None.field-0-is c.in-Ok-false.ensures.zeros c.in-Ok-false.field-0-test

pub returns-in-Ok-false-clause-as_before : goal.returns-in-Ok-false-clause-as_before
returns-in-Ok-false-clause-as_before g c =
    then_bytes (g.D.Disk.state c.args.disk.now) (g.D.Disk.state c.header_on.new.disk) (g.D.Disk.state c.is_zeroed.new.disk) c.header_on.ensures.runs
    c.header_on.ensures.same c.in-Ok-None.ensures.faults c.in-Ok-false.ensures.as_before

pub returns-in-Err-is_zeroed-clause-refused : goal.returns-in-Err-is_zeroed-clause-refused
returns-in-Err-is_zeroed-clause-refused g c =
    then_failed (g.D.Disk.state c.args.disk.now) (g.D.Disk.state c.header_on.new.disk) (g.D.Disk.state c.is_zeroed.new.disk) c.in-Err-is_zeroed.fault c.header_on.ensures.runs
    c.header_on.ensures.same c.in-Ok-None.ensures.faults c.in-Err-is_zeroed.ensures.refused

pub returns-in-Err-clause-refused : goal.returns-in-Err-clause-refused
returns-in-Err-clause-refused g c =
    headers_failed (g.D.Disk.state c.args.disk.now) (g.D.Disk.state c.header_on.new.disk) c.header_on.ensures.runs c.header_on.ensures.same c.in-Err.ensures.failed
