use Rattle.key_campaign.proofs.Adoptions.{adopted_sound}
use Rattle.key_campaign.proofs.adoption_laws.adoptions_keep_ledgers_sound.Goals as goal

pub returns : goal.returns
returns c = adopted_sound
