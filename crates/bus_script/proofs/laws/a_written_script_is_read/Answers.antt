use Rattle.bus_script.proofs.EventsRead.{script_read}
use Rattle.bus_script.proofs.laws.a_written_script_is_read.Goals as goal

pub returns : goal.returns
returns c = λ bus text events is given. script_read bus is text events given
