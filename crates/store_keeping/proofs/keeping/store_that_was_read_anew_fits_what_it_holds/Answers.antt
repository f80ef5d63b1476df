use Rattle.std.proofs.Common.{refl}
use Rattle.store_keeping.specs.Keeping.{keeps_cells}
use Rattle.store_keeping.proofs.CallerLemmas.{fits_up}
use Rattle.store_keeping.proofs.keeping.store_that_was_read_anew_fits_what_it_holds.Goals as goal

pub returns : goal.returns
returns c = λ old new cuts tells now. fits_up (keeps_cells new.cells) old new cuts tells now refl
