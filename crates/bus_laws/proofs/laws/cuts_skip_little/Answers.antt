use Rattle.bus_laws.proofs.FirstWorld.{calm}
use Rattle.bus_laws.proofs.Skipping.{SkipsLittle-run}
use Rattle.bus_laws.proofs.laws.cuts_skip_little.Goals as goal

pub returns : goal.returns
returns c = λ start ms last first run m step. SkipsLittle-run start ms last m first.sound (λ i. calm start i first) run step
