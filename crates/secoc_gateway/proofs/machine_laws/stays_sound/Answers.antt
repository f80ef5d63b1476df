use Rattle.secoc_gateway.proofs.Rising.{Sound-gateway}
use Rattle.secoc_gateway.proofs.machine_laws.stays_sound.Goals as goal

pub returns : goal.returns
returns c = λ pairs start ms last sound run. Sound-gateway pairs start ms last sound run
