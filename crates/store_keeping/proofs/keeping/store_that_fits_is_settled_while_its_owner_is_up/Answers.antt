use Rattle.store_keeping.proofs.CallerLemmas.{settled_of, fits_store}
use Rattle.store_keeping.proofs.keeping.store_that_fits_is_settled_while_its_owner_is_up.Goals as goal

pub returns : goal.returns
returns c = λ keeping store fits up none holds. settled_of keeping store (fits_store keeping store fits) up none holds fits.now fits.told
