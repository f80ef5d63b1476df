use Rattle.bus_script.specs.EventKinds.{kinds}
use Rattle.bus_script.proofs.EventValues.{events_among-are_events, events_among-few}
use Rattle.bus_script.proofs.laws.events_are_within_their_bounds.Goals as goal

pub returns : goal.returns
returns c = λ bus text events is given. (events_among-are_events kinds bus.nodes text events is.are_nodes given, events_among-few kinds bus.nodes text events given)
