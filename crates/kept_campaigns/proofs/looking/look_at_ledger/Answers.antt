use Rattle.kept_campaigns.proofs.LedgerLaws.{one_looked, one_unkept}
use Rattle.kept_campaigns.proofs.looking.look_at_ledger.Goals as goal

pub returns-clause-looked : goal.returns-clause-looked
returns-clause-looked g c =
    one_looked g.D.Disk.state c.args.disks.now.items c.remove-disk.new.self.items c.put_first.new.disks.items c.remove-disk.result c.look_at_disk-disk.result.0
    c.requires c.remove-disk.ensures.value c.remove-disk.ensures.by_index.2 c.put_first.ensures.items c.look_at_disk-disk.result.1
    c.look_at_disk-disk.ensures.as_before c.look_at_disk-disk.ensures.keeps

pub returns-clause-refused : goal.returns-clause-refused
returns-clause-refused g c =
    one_unkept g.D.Disk.state c.args.disks.now.items c.remove-disk.new.self.items c.put_first.new.disks.items c.remove-disk.result c.look_at_disk-disk.result.0
    c.requires c.remove-disk.ensures.value c.remove-disk.ensures.by_index.2 c.put_first.ensures.items c.look_at_disk-disk.result.1
    c.look_at_disk-disk.ensures.refused
