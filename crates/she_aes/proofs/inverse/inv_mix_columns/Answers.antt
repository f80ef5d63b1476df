use Rattle.std.proofs.Common.{◌∙◌}
use Rattle.she_aes.proofs.MixingLanes.{unmixes}
use Rattle.she_aes.proofs.inverse.inv_mix_columns.Goals as goal

pub returns : goal.returns
returns c =
    c.mix_columns.ensures ∙ unmixes c.args.state c.double.result c.double-2.result c.fits-state c.double.ensures c.double-2.ensures
