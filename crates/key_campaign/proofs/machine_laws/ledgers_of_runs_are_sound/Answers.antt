use Rattle.key_campaign.proofs.SoundSteps.{Sound-run}
use Rattle.key_campaign.proofs.machine_laws.ledgers_of_runs_are_sound.Goals as goal

pub returns : goal.returns
returns c = λ start ms last begins run. Sound-run start ms last begins.sound run
