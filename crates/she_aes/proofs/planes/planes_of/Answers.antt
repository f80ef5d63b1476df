use Rattle.she_aes.proofs.PlaneLanes.{plane_bit}
use Rattle.she_aes.proofs.planes.planes_of.Goals as goal

pub returns : goal.returns
returns c = λ r col k hr hc hk. plane_bit c.args.columns.now c.turned.result c.turned.ensures r col hr hc k hk
