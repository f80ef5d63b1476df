use Rattle.std.proofs.Common.{refl}
use Rattle.store_keeping.specs.Keeping.{keeps_cells}
use Rattle.store_keeping.proofs.CallerLemmas.{fits_settled}
use Rattle.store_keeping.proofs.keeping.settled_store_fits_what_it_holds.Goals as goal

pub returns : goal.returns
returns c = λ store settled. fits_settled (keeps_cells store.cells) store settled refl
