use Rattle.std.proofs.Common.{◌∙◌}
use Rattle.std.specs.Int.{w16}
use Rattle.std.proofs.lemmas.Result.{on_ok_weaker, on_err_weaker}
use Rattle.basics.proofs.CallerLemmas.{to_be_bytes-is}
use Rattle.store_growing.proofs.DiskSteps.{number_stands, number_written, number_cut}
use Rattle.store_growing.proofs.growing.write_number.Goals as goal

pub returns-then-has_head-clause-written : goal.returns-then-has_head-clause-written
returns-then-has_head-clause-written g c =
    number_stands c.args.cells c.args.image.now (g.D.Disk.state c.args.disk.now) (g.met.D.Disk.is_disk c.args.disk.now) c.requires.sized
    (c.has_head.ensures.0 c.if-has_head.true)

pub returns-clause-written : goal.returns-clause-written
returns-clause-written g c =
    on_ok_weaker c.write_and_sync.result
    (number_written c.args.cells c.args.image.now c.to_be_bytes.result (g.D.Disk.state c.args.disk.now) (g.D.Disk.state c.write_and_sync.new.disk)
    (c.to_be_bytes.ensures ∙ to_be_bytes-is w16 c.args.cells))
    c.write_and_sync.ensures.lasts

pub returns-clause-cut : goal.returns-clause-cut
returns-clause-cut g c =
    on_err_weaker c.write_and_sync.result
    (number_cut c.args.cells c.to_be_bytes.result (g.D.Disk.state c.args.disk.now) (g.D.Disk.state c.write_and_sync.new.disk)
    (g.met.D.Disk.is_disk c.args.disk.now) c.requires.sized (c.to_be_bytes.ensures ∙ to_be_bytes-is w16 c.args.cells))
    c.write_and_sync.ensures.torn
