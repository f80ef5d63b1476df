use Rattle.store_growing.proofs.FirstCauses.{refused_once}
use Rattle.store_growing.proofs.laws.refused_once.Goals as goal

pub returns : goal.returns
returns c = refused_once
