use Rattle.locate_commands.proofs.Accepting.{fits_accepted}
use Rattle.locate_commands.proofs.laws.what_fits_is_accepted.Goals as goal

pub returns : goal.returns
returns c = fits_accepted
