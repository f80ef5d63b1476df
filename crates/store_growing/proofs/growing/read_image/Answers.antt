use Rattle.std.proofs.Common.{arith}
use Rattle.cut_disk.proofs.CallerLemmas.{runs_of_call}
use Rattle.store_growing.proofs.DiskSteps.{sees_read}
use Rattle.store_growing.proofs.growing.read_image.Goals as goal

pub returns-in-Ok-clause-runs : goal.returns-in-Ok-clause-runs
returns-in-Ok-clause-runs g c = runs_of_call c.in-Ok.ensures.call

pub returns-in-Ok-clause-sees : goal.returns-in-Ok-clause-sees
returns-in-Ok-clause-sees g c =
    sees_read (g.D.Disk.state c.args.disk.now) c.read.new.out (g.met.D.Disk.is_disk c.args.disk.now) (omega (arith, c.requires)) c.in-Ok.ensures.bytes

pub returns-in-Err-clause-runs : goal.returns-in-Err-clause-runs
returns-in-Err-clause-runs g c = runs_of_call c.in-Err.ensures.call
