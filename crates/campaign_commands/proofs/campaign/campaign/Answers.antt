use Rattle.std.proofs.Common.{length, map, refl, ap, subst, arith}
use Rattle.std.proofs.lemmas.List.{length-map}
use Rattle.campaign_commands.specs.Steps.{HasDisk, LacksDisk, disk_wanting, on_first}
use Rattle.campaign_commands.proofs.campaign.campaign.Goals as goal

pub on_first_disk-requires-clause-some : goal.on_first_disk-requires-clause-some
on_first_disk-requires-clause-some g c =
    let has = subst (λ ds. HasDisk (map g.D.Disk.state ds)) c.as_slice.ensures.value c.in-Ok.ensures in
    omega (arith, ap length has.are, length-map c.args.disks.now.items g.D.Disk.state)

pub returns-in-Ok : goal.returns-in-Ok
returns-in-Ok g c = on_first (subst (λ ds. HasDisk (map g.D.Disk.state ds)) c.as_slice.ensures.value c.in-Ok.ensures) c.on_first_disk.ensures

pub returns-in-Err : goal.returns-in-Err
returns-in-Err g c = disk_wanting refl refl (record {
  row = c.in-Err.refusal;
  comes = subst (λ ds. LacksDisk (map g.D.Disk.state ds) c.in-Err.refusal) c.as_slice.ensures.value c.in-Err.ensures;
  told = c.tell_refusal.ensures;
})
