use Rattle.she_aes.proofs.Undoing.{dec-enc}
use Rattle.she_aes.proofs.laws.decryption_undoes_encryption.Goals as goal

pub returns : goal.returns
returns c = dec-enc
