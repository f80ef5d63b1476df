use Rattle.key_campaign.proofs.SoundSteps.{Sound-step}
use Rattle.key_campaign.proofs.machine_laws.steps_keep_ledgers_sound.Goals as goal

pub returns : goal.returns
returns c = Sound-step
