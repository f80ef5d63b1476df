use Rattle.store_keeping.proofs.CallerLemmas.{found_kept}
use Rattle.store_keeping.proofs.keeping.cut_finds_what_may_be_kept.Goals as goal

pub returns : goal.returns
returns c = λ keeping old new fits cuts now layout. found_kept keeping old new fits cuts now layout
