use Rattle.std.proofs.Common.{refl}
use Rattle.bus_world.proofs.CallerLemmas.{same_known}
use Rattle.gateway_commands.specs.Rows.{without_disks, in_row}
use Rattle.gateway_commands.proofs.Doing.{ends_job}
use Rattle.gateway_commands.proofs.Keeping.{RunsGateway-ends}
use Rattle.gateway_commands.proofs.run.run_asked.Goals as goal

pub do_job-requires : goal.do_job-requires
do_job-requires g c = (c.in-Ok.ensures c.requires.0 c.requires.1).0

pub returns-in-Ok : goal.returns-in-Ok
returns-in-Ok g c words asks =
    RunsGateway-ends _ _ _ _ (same_known g.D.Disk.state c.args.disks.now c.do_job.new.disks)
    (ends_job _ _ _ _ _ _ _ (c.in-Ok.ensures words asks).1 c.do_job.ensures)

pub returns-in-Err : goal.returns-in-Err
returns-in-Err g c words asks =
    RunsGateway-ends _ _ _ _ (λ _. refl)
    (in_row (record { row = c.in-Err.refusal; comes = without_disks c.in-Err.refusal (c.in-Err.ensures words asks) refl; told = c.tell_refusal.ensures }))
