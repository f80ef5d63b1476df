use Rattle.std.proofs.Common.{rules, ◌≡◌, length}
use Rattle.adopt_commands.proofs.OverDisks.{over_first, over_none}
use Rattle.adopt_commands.proofs.adopting.adopt_over.Goals as goal

pub returns-then-is_empty : goal.returns-then-is_empty
returns-then-is_empty g c =
    let none : length c.args.disks.now.items ≡ 0 = search rules in
    over_none g.D.Disk.state c.args.may c.args.strict c.args.entries.now _ c.args.disks.now.items none
    (record { row = c.no_disk_refusal-refusal.result; comes = c.no_disk_refusal-refusal.ensures; told = c.tell_refusal.ensures })

pub returns : goal.returns
returns g c =
    over_first g.D.Disk.state c.args.may c.args.strict c.args.entries.now _ c.args.disks.now.items c.remove-disk.new.self.items c.put_first.new.disks.items c.remove-disk.result _
    (search rules) c.remove-disk.ensures.value c.remove-disk.ensures.by_index.2 c.put_first.ensures.items c.adopt_on-disk.ensures
