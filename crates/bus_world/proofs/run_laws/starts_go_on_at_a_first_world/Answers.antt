use Rattle.bus_world.proofs.Attaching.{goes_on_first}
use Rattle.bus_world.proofs.run_laws.starts_go_on_at_a_first_world.Goals as goal

pub returns : goal.returns
returns c = λ bus most before start is started tell.
    goes_on_first bus most before start started c.named_buses_are_buses.ensures is tell
