use Rattle.she_aes.proofs.MixingLanes.{mixes}
use Rattle.she_aes.proofs.inverse.mix_columns.Goals as goal

pub returns : goal.returns
returns c = mixes c.args.state c.double.result c.fits-state c.double.ensures
