use Rattle.kept_campaigns.proofs.LedgerLaws.{same_two}
use Rattle.kept_campaigns.proofs.keeping.keep_campaign_words.Goals as goal

pub returns-in-Some-clause-keeps : goal.returns-in-Some-clause-keeps
returns-in-Some-clause-keeps g c two keeps = rw (same_two _ two _ keeps c.in-Some.ensures.some) c.keep_campaign.ensures.keeps
