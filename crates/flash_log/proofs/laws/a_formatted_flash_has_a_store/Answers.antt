use Rattle.flash_log.proofs.PutLaws.{store_found}
use Rattle.flash_log.proofs.laws.a_formatted_flash_has_a_store.Goals as goal

pub returns : goal.returns
returns c = store_found
