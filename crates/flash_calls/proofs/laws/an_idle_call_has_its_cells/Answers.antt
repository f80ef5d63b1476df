use Rattle.flash_calls.proofs.LifeLaws.{call_formatted, call_cut, call_later}
use Rattle.flash_calls.proofs.laws.an_idle_call_has_its_cells.Goals as goal

pub returns-clause-formatted : goal.returns-clause-formatted
returns-clause-formatted c = call_formatted

pub returns-clause-cut : goal.returns-clause-cut
returns-clause-cut c = call_cut

pub returns-clause-later : goal.returns-clause-later
returns-clause-later c = call_later
