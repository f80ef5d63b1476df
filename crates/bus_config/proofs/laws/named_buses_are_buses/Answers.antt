use Rattle.bus_config.proofs.Machine.{is_bus}
use Rattle.bus_config.proofs.laws.named_buses_are_buses.Goals as goal

-- src/laws.rt:5:1
pub returns : goal.returns
returns c = is_bus
