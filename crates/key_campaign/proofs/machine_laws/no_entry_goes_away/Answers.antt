use Rattle.key_campaign.proofs.Rising.{NoneGoes-run}
use Rattle.key_campaign.proofs.machine_laws.no_entry_goes_away.Goals as goal

pub returns : goal.returns
returns c = λ start ms last begins run. NoneGoes-run start ms last begins.sound run
