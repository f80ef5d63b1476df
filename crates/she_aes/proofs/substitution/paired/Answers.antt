use Rattle.she_aes.specs.Substitution.{low_nibble, high_nibble}
use Rattle.she_aes.proofs.Substituting.{places, low_nibble_fits, high_nibble_fits, low_is, high_is, pair_is}
use Rattle.she_aes.proofs.substitution.paired.Goals as goal

pub look_up-requires : goal.look_up-requires
look_up-requires c = places c.args.bytes c.fits-bytes low_nibble low_nibble_fits (low_is c.args.bytes c.fits-bytes)

pub look_up-requires-2 : goal.look_up-requires-2
look_up-requires-2 c = places c.args.bytes c.fits-bytes high_nibble high_nibble_fits (high_is c.args.bytes c.fits-bytes)

pub returns : goal.returns
returns c = pair_is c.args.bytes c.fits-bytes c.args.low c.args.high c.look_up.ensures c.look_up-2.ensures
