use Rattle.she_aes.proofs.ModesUndone.{ecb_inverse-ecb}
use Rattle.she_aes.proofs.laws.ecb_decryption_undoes_encryption.Goals as goal

pub returns : goal.returns
returns c = ecb_inverse-ecb
