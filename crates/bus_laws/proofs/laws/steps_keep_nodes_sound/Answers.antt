use Rattle.bus_laws.proofs.SoundSteps.{Sound-step}
use Rattle.bus_laws.proofs.laws.steps_keep_nodes_sound.Goals as goal

pub returns : goal.returns
returns c = λ node act line after. Sound-step node act line after
