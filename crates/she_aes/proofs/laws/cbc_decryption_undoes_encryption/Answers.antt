use Rattle.she_aes.proofs.ModesUndone.{cbc_inverse-cbc}
use Rattle.she_aes.proofs.laws.cbc_decryption_undoes_encryption.Goals as goal

pub returns : goal.returns
returns c = cbc_inverse-cbc
