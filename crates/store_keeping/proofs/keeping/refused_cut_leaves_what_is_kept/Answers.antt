use Rattle.store_keeping.proofs.CallerLemmas.{fits_refused}
use Rattle.store_keeping.proofs.keeping.refused_cut_leaves_what_is_kept.Goals as goal

pub returns : goal.returns
returns c = λ keeping old new fits cuts tells layout. fits_refused keeping old new fits cuts tells layout
