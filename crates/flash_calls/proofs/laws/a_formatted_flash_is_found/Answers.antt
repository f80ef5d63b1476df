use Rattle.flash_calls.proofs.LifeLaws.{call_found, call_stays}
use Rattle.flash_calls.proofs.laws.a_formatted_flash_is_found.Goals as goal

pub returns-clause-formatted : goal.returns-clause-formatted
returns-clause-formatted c = call_found

pub returns-clause-later : goal.returns-clause-later
returns-clause-later c = call_stays
