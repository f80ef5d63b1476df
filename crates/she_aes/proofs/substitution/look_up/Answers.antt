use Rattle.she_aes.proofs.Substituting.{look_up_fits, look_up_is}
use Rattle.she_aes.proofs.substitution.look_up.Goals as goal

pub swizzle : goal.swizzle
swizzle c = look_up_fits c.args.places c.fits-places.0 c.requires

pub returns : goal.returns
returns c = look_up_is c.args.table c.args.places c.fits-places.0
