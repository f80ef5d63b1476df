-- What is done with lines
use Rattle.bus_config.specs.Buses.{NamedBus}
use Rattle.bus_world.specs.declared.start.Start.{Start}

-- lines of `frame`, of `judge`, or the events of a script over a bus, which are printed again, or replayed from this
-- start
pub data Task : Type 0 where
  frame : Task
  judge : Task
  check : NamedBus → Task
  replay : Start → NamedBus → Task
