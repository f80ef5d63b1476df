use Rattle.std.proofs.Common.{refl, map}
use Rattle.std.specs.Prelude.{string_bytes}
use Rattle.bus_world.proofs.CallerLemmas.{same_known}
use Rattle.endpoint_commands.proofs.Statuses.{ends_does, ends_refused, runs_endpoint}
use Rattle.endpoint_commands.proofs.run.run_endpoint.Goals as goal

pub do_endpoint-requires : goal.do_endpoint-requires
do_endpoint-requires g c = (c.in-Ok.ensures (map string_bytes c.args.words.now) (g.T.Source.state c.args.log.now) c.form_of.ensures).0

pub returns-in-Ok : goal.returns-in-Ok
returns-in-Ok g c =
    let made = c.in-Ok.ensures (map string_bytes c.args.words.now) (g.T.Source.state c.args.log.now) c.form_of.ensures in
    runs_endpoint _ _ _ _ (λ same. same_known g.D.Disk.state c.args.disks.now c.do_endpoint.new.disks same)
    (ends_does _ _ _ _ c.in-Ok.job.bus c.in-Ok.job.rules.items c.in-Ok.job.image made.1 c.do_endpoint.ensures)

pub returns-in-Err : goal.returns-in-Err
returns-in-Err g c =
    runs_endpoint _ _ _ _ (λ same. refl)
    (ends_refused _ _ _ _ refl (record { row = c.in-Err.refusal; comes = c.in-Err.ensures (map string_bytes c.args.words.now) (g.T.Source.state c.args.log.now) c.form_of.ensures; told = c.tell_refusal.ensures }) refl)
