use Rattle.std.proofs.Common.{[], ◌∷◌, ◌∙◌, get_or, refl}
use Rattle.basics.proofs.CallerLemmas.{from_be_bytes-16}
use Rattle.slot_commands.proofs.CellLaws.{none_named}
use Rattle.slot_commands.proofs.cells.bound_of.Goals as goal

pub returns-in-None : goal.returns-in-None
returns-in-None c place from =
    let cell = c.args.cell.now in (
      from,
      none_named cell c.from_be_bytes-id.result c.direction_of-direction.result
          (c.from_be_bytes-id.ensures ∙ from_be_bytes-16 (get_or cell 2 0 ∷ get_or cell 3 0 ∷ []) refl)
          c.direction_of-direction.ensures c.in-None.ensures,
    )
