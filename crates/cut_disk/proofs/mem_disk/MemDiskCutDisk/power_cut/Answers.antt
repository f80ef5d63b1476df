-- Each loose byte is what the cut leaves of it, and then none is loose.
use Rattle.std.proofs.Common.{arith}
use Rattle.std.proofs.lemmas.Grind.{common_steps}
use Rattle.cut_disk.specs.MemDisk.{contents}
use Rattle.cut_disk.proofs.Tearing.{cut_leaves}
use Rattle.cut_disk.proofs.mem_disk.MemDiskCutDisk.power_cut.Goals as goal

pub returns-clause-left : goal.returns-clause-left
returns-clause-left c = cut_leaves c.args.torn (contents c.args.self.now) _ _ (grind (arith, common_steps)) (grind (arith, common_steps))
