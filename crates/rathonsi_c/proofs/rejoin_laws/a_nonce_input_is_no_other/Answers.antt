use Rattle.rathonsi_c.proofs.NonceLaws.{length-nonce_input, no_boot_input}
use Rattle.rathonsi_c.proofs.rejoin_laws.a_nonce_input_is_no_other.Goals as goal

pub returns-clause-length : goal.returns-clause-length
returns-clause-length c = λ id asker count. length-nonce_input id asker count

pub returns-clause-boot : goal.returns-clause-boot
returns-clause-boot c = λ id asker count rest. no_boot_input id asker count rest
