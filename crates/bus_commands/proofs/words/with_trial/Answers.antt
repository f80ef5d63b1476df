use Rattle.bus_commands.proofs.AskedWords.{four_trial}
use Rattle.bus_commands.proofs.words.with_trial.Goals as goal

pub returns : goal.returns
returns c name third fourth asks = four_trial name c.args.bus.now third fourth c.args.trial asks
