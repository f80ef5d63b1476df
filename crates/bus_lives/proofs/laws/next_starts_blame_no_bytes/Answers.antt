use Rattle.bus_lives.proofs.Chain.{next_starts_blame_no_bytes}
use Rattle.bus_lives.proofs.laws.next_starts_blame_no_bytes.Goals as goal

pub returns : goal.returns
returns c = next_starts_blame_no_bytes
