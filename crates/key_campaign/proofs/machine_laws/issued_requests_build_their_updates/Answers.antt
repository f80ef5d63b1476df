use Rattle.key_campaign.proofs.Requests.{Builds-run}
use Rattle.key_campaign.proofs.machine_laws.issued_requests_build_their_updates.Goals as goal

pub returns : goal.returns
returns c = λ start ms last begins run. Builds-run start ms last run
