-- What the steps of making a trial say to one another.
use Rattle.std.specs.Prelude.{◌≡◌, ℕ, List}
use Rattle.bus_config.specs.declared.node_lines.NodeLine.{NodeLine}
use Rattle.bus_machine.specs.declared.events.Event.{Event}
use Rattle.bus_script.specs.declared.trial.Sender.{Sender}
use Rattle.bus_script.specs.Trials.{Drawn, senders, route_ids}

-- this event was drawn, and left the generator in this state
abbrev pub IsDrawn : Drawn → Event → ℕ → Type 0
IsDrawn drawn event after = (event ≡ drawn.event) × (after ≡ drawn.after)

-- these are the routes that send and the Data IDs of these nodes
abbrev pub IsTrial : List NodeLine → List Sender → List ℕ → Type 0
IsTrial nodes sending ids = (sending ≡ senders 0 nodes) × (ids ≡ route_ids nodes)
