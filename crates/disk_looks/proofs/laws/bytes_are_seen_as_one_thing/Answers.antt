use Rattle.disk_looks.proofs.SeenLaws.{seen_as_one}
use Rattle.disk_looks.proofs.laws.bytes_are_seen_as_one_thing.Goals as goal

pub returns : goal.returns
returns c = seen_as_one
