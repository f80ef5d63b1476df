use Rattle.she_aes.proofs.PairLanes.{constant_added_again}
use Rattle.she_aes.proofs.rounds.last_key_of.Goals as goal

pub returns : goal.returns
returns c = λ k key is. constant_added_again k key is
