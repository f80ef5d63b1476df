use Rattle.key_campaign.proofs.Skipping.{FewAreSkipped-run}
use Rattle.key_campaign.proofs.machine_laws.few_counters_are_skipped.Goals as goal

pub returns : goal.returns
returns c = λ start ms last begins run. FewAreSkipped-run start ms last begins.sound begins.calm run
