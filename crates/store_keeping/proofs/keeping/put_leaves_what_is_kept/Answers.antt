use Rattle.std.proofs.Common.{ap, ◌∙◌}
use Rattle.std.specs.Prelude.{List, ℕ, set}
use Rattle.store_keeping.specs.Keeping.{keeps_cells}
use Rattle.store_keeping.proofs.CallerLemmas.{fits_put}
use Rattle.store_keeping.proofs.keeping.put_leaves_what_is_kept.Goals as goal

pub returns : goal.returns
returns g = λ keeping old new i c fits up none holds puts.
    let cells = puts.cells ∙ ap (λ (l : List (List ℕ)). set l i c) holds.cells in
    (fits_put keeping old new i c fits up none holds (keeps_cells (set keeping.cells i c)) puts cells, record { whole = puts.whole; cells = cells })
