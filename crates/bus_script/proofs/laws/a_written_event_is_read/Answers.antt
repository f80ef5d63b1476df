use Rattle.bus_script.proofs.EventsRead.{event_read}
use Rattle.bus_script.proofs.laws.a_written_event_is_read.Goals as goal

pub returns : goal.returns
returns c = λ bus event is h. event_read bus is event h
