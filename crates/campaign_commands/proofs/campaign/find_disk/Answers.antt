use Rattle.std.proofs.Common.{arith}
use Rattle.campaign_commands.proofs.Looked.{none_looked, first_looked}
use Rattle.campaign_commands.proofs.campaign.find_disk.Goals as goal

pub returns-in-empty : goal.returns-in-empty
returns-in-empty g c = none_looked g.D.Disk.state c.args.disks.now c.no_disk_refusal.result (omega arith) c.no_disk_refusal.ensures

pub returns-in-len1-up : goal.returns-in-len1-up
returns-in-len1-up g c = first_looked g.D.Disk.state c.args.disks.now c.first-item.result c.check_size.result (omega arith) c.first-item.is c.check_size.ensures
