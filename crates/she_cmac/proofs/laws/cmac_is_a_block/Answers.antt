use Rattle.she_cmac.proofs.CmacLaws.{IsBlock-cmac}
use Rattle.she_cmac.proofs.laws.cmac_is_a_block.Goals as goal

pub returns : goal.returns
returns c = λ key message. IsBlock-cmac key message
