use Rattle.she_aes.proofs.PlaneLanes.{are_columns}
use Rattle.she_aes.proofs.planes.columns_of.Goals as goal

pub returns : goal.returns
returns c =
    are_columns c.args.planes.now c.nibbles.result c.nibbles-2.result c.nibbles-3.result c.nibbles-4.result (c.nibbles.ensures.low, c.nibbles.ensures.high) (c.nibbles-2.ensures.low, c.nibbles-2.ensures.high) (c.nibbles-3.ensures.low, c.nibbles-3.ensures.high) (c.nibbles-4.ensures.low, c.nibbles-4.ensures.high) c.turned.result c.turned.ensures
