use Rattle.key_campaign.proofs.Adoptions.{adopted_reaches}
use Rattle.key_campaign.proofs.adoption_laws.adoptions_reach_their_counter.Goals as goal

pub returns : goal.returns
returns c = adopted_reaches
