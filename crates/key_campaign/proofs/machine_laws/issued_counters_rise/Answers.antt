use Rattle.key_campaign.proofs.Rising.{CountersRise-run}
use Rattle.key_campaign.proofs.machine_laws.issued_counters_rise.Goals as goal

pub returns : goal.returns
returns c = λ start ms last begins run. CountersRise-run start ms last begins.sound run
