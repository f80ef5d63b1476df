use Rattle.she_aes.proofs.ModesUndone.{ecb-ecb_inverse}
use Rattle.she_aes.proofs.laws.ecb_encryption_undoes_decryption.Goals as goal

pub returns : goal.returns
returns c = ecb-ecb_inverse
