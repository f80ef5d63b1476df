use Rattle.std.proofs.Common.{◌∷◌, [], get_or, refl, ◌∙◌}
use Rattle.basics.proofs.CallerLemmas.{from_be_bytes-16}
use Rattle.rathonsi_c.proofs.LookLaws.{no_bound}
use Rattle.rathonsi_c.proofs.images.bound_held.Goals as goal

pub returns-in_default-bound_in-clause-none : goal.returns-in_default-bound_in-clause-none
returns-in_default-bound_in-clause-none c =
    let cell = c.args.cell.now in
    no_bound cell c.from_be_bytes-id.result (c.from_be_bytes-id.ensures ∙ from_be_bytes-16 (get_or cell 2 0 ∷ get_or cell 3 0 ∷ []) refl) c.in_default.ensures c.in_default-bound_in.ensures
