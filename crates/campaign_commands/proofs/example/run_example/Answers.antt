use Rattle.std.proofs.Common.{map, ap, refl}
use Rattle.std.specs.Prelude.{Some, Vec}
use Rattle.std.specs.declared.alloc.Global.{Global}
use Rattle.bus_port.specs.MemSource.{CleanSourceState, clean_source}
use Rattle.cut_disk.specs.Memory.{disk_of}
use Rattle.cut_disk.specs.MemDisk.{contents}
use Rattle.cut_disk.specs.declared.mem_disk.MemDisk.{MemDisk}
use Rattle.program_edge.specs.Inputs.{Reading}
use Rattle.program_edge.proofs.CallerLemmas.{Offers-clean}
use Rattle.campaign_commands.specs.declared.example.TheConstants.{EXAMPLE}
use Rattle.campaign_commands.specs.Rows.{CampaignDisks}
use Rattle.campaign_commands.proofs.Known.{campaigns_known}
use Rattle.campaign_commands.proofs.WholeExample.{short_script, no_example}
use Rattle.campaign_commands.proofs.example.run_example.Goals as goal

pub returns-in_default : goal.returns-in_default
returns-in_default g c = no_example _

pub returns : goal.returns
returns g c =
    let read : Reading = record { before = clean_source c.new-script.result; after = clean_source c.run_campaign.new.script } in
    let disks : CampaignDisks = record {
      before = map (λ (disk : MemDisk). disk_of (contents disk)) c.in-Ok.disks.items;
      after = map (λ (disk : MemDisk). disk_of (contents disk)) c.run_campaign.new.disks.items;
    } in (
      record { words = _; script = read },
      disks,
      record { two = refl; script = Offers-clean read EXAMPLE.now (ap (λ (s : CleanSourceState). Some s.left) c.new-script.ensures) short_script refl; disk = c.in-Ok.ensures },
      campaigns_known _ _ _ _ (λ same. ap (λ (v : Vec MemDisk Global). map (λ (disk : MemDisk). disk_of (contents disk)) v.items) same) c.run_campaign.ensures.promises
          c.run_campaign.ensures.campaigned,
    )
