-- the text so far has the canonical lines of the events so far
use Rattle.std.proofs.Common.{◌≡◌, take}
use Rattle.std.specs.List.{flat_map}
use Rattle.bus_script.specs.Canon.{canon}
use Rattle.bus_commands.proofs.events.canonical.Given as goal

abbrev pub invariant-loop-event : goal.invariant-loop-event
invariant-loop-event l = l.text.items ≡ flat_map (canon l.bus.nodes) (take l.event-index l.events)
