use Rattle.bus_config.proofs.Named.{OwnNamesBelow, NamedBelow}
use Rattle.bus_config.proofs.buses.have_own_names.Given as goal

abbrev pub invariant-loop-place : goal.invariant-loop-place
invariant-loop-place l = OwnNamesBelow l.nodes l.place × NamedBelow l.nodes l.place
