use Rattle.key_campaign.proofs.Requests.{Allowed-run}
use Rattle.key_campaign.proofs.machine_laws.issued_requests_are_allowed.Goals as goal

pub returns : goal.returns
returns c = λ start ms last begins run slots good. Allowed-run slots good start ms last run
