-- The call of the disk in memory, with its entry.
use Rattle.cut_disk.specs.MemDisk.{contents}
use Rattle.cut_disk.proofs.Tapes.{newest_after, call_after}
use Rattle.cut_disk.proofs.tape_disk.TapeDiskCutDisk.power_cut.Goals as goal

pub invariant_of-self-clause-newest : goal.invariant_of-self-clause-newest
invariant_of-self-clause-newest c = newest_after _ (contents c.power_cut.new.self) c.args.self.now.tape c.note.new.tape c.note.ensures

pub returns-clause-call : goal.returns-clause-call
returns-clause-call c = call_after _ (contents c.args.self.now.disk) (contents c.power_cut.new.self) c.args.self.now.tape c.note.new.tape c.power_cut.ensures.call c.note.ensures
