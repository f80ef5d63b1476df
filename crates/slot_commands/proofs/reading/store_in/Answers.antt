use Rattle.std.proofs.Common.{ap}
use Rattle.cut_disk.specs.Memory.{disk_of}
use Rattle.slot_commands.proofs.ReadingLaws.{still_fresh}
use Rattle.slot_commands.proofs.reading.store_in.Goals as goal

pub store_on-requires : goal.store_on-requires
store_on-requires c = still_fresh _ _ (ap disk_of c.in-Ok.ensures)
