use Rattle.bus_config.proofs.Named.{own_name_found, named_there}
use Rattle.bus_config.proofs.laws.names_tell_nodes.Goals as goal

-- src/laws.rt:10:1
pub returns : goal.returns
returns c = record { own = own_name_found; asked = named_there }
