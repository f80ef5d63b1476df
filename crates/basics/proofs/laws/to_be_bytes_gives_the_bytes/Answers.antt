use Rattle.basics.proofs.CallerLemmas.{to_be_bytes-is}
use Rattle.basics.proofs.laws.to_be_bytes_gives_the_bytes.Goals as goal

pub returns : goal.returns
returns c = to_be_bytes-is
