use Rattle.key_campaign.proofs.Adoptions.{adopted_alone}
use Rattle.key_campaign.proofs.adoption_laws.adoptions_touch_no_other_entry.Goals as goal

pub returns : goal.returns
returns c = adopted_alone
