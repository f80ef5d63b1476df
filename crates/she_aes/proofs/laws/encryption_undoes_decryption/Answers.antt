use Rattle.she_aes.proofs.Undoing.{enc-dec}
use Rattle.she_aes.proofs.laws.encryption_undoes_decryption.Goals as goal

pub returns : goal.returns
returns c = enc-dec
