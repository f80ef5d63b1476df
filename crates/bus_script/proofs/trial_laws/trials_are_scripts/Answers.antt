use Rattle.bus_script.proofs.Trials.{trials_are_scripts}
use Rattle.bus_script.proofs.trial_laws.trials_are_scripts.Goals as goal

pub returns : goal.returns
returns c = trials_are_scripts
