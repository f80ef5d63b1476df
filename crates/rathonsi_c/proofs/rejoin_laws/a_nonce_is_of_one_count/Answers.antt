use Rattle.rathonsi_c.proofs.NonceLaws.{nonces_apart}
use Rattle.rathonsi_c.proofs.rejoin_laws.a_nonce_is_of_one_count.Goals as goal

pub returns : goal.returns
returns c = λ r s image later nonce asker other m l e w x u v y z apart. nonces_apart r s image later nonce asker other m l e w x u v y z apart
