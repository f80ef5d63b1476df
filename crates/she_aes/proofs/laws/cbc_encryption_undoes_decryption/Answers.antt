use Rattle.she_aes.proofs.ModesUndone.{cbc-cbc_inverse}
use Rattle.she_aes.proofs.laws.cbc_encryption_undoes_decryption.Goals as goal

pub returns : goal.returns
returns c = cbc-cbc_inverse
