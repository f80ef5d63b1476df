-- What memory holds of two copies of a cell.
use Rattle.std.specs.Prelude.{ℕ, Option, Some, None, List, if◌then◌else◌}
use Rattle.cell_store.specs.declared.copies.Side.{Side}
use Rattle.cell_store.specs.declared.copies.Side.TheVariants.{First, Second}
use Rattle.cell_store.specs.declared.copies.Held.{Held}
use Rattle.cell_store.specs.Twin.{counts, is_live, mark, payload}

-- a copy beside its spare
abbrev pub held_copy : List ℕ → Side → List ℕ → Held
held_copy this side that =
    record { payload = payload this; mark = mark this; side = side; spare_is_live = is_live that }

-- the copy that counts; none if the cell is damaged
abbrev pub held_of : List ℕ → List ℕ → Option Held
held_of first second =
    if counts first second then Some (held_copy first First second) else
    if counts second first then Some (held_copy second Second first) else None
