use Rattle.key_campaign.proofs.Adoptions.{adopted_keeps}
use Rattle.key_campaign.proofs.adoption_laws.adoptions_keep_entries.Goals as goal

pub returns : goal.returns
returns c = adopted_keeps
