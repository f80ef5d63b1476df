use Rattle.she_aes.proofs.Substituting.{inv_sub_bytes_is}
use Rattle.she_aes.proofs.substitution.inv_sub_bytes.Goals as goal

pub returns : goal.returns
returns c = inv_sub_bytes_is c.args.state c.fits-state c.paired-pairs.ensures c.inverted.ensures
