use Rattle.gateway_commands.proofs.ExampleScript.{example_events}
use Rattle.gateway_commands.proofs.laws.example_replays.Goals as goal

pub returns : goal.returns
returns c = example_events
