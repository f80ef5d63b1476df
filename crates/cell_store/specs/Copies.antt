-- What is kept in memory of a cell, and the bytes that it is kept of.
use Rattle.std.specs.Prelude.{◌≡◌, ℕ, true, List}
use Rattle.cell_store.specs.declared.copies.Side.{Side}
use Rattle.cell_store.specs.declared.copies.Side.TheVariants.{First, Second}
use Rattle.cell_store.specs.declared.copies.Held.{Held}
use Rattle.cell_store.specs.Layout.{part}
use Rattle.cell_store.specs.Twin.{first_at, second_at, counts, is_live, mark, payload}

abbrev pub other : Side → Side
other First = Second
other Second = First

-- where a copy of cell i stands
abbrev pub side_at : ℕ → Side → ℕ
side_at i First = first_at i
side_at i Second = second_at i

-- a copy of cell i in the bytes x
abbrev pub copy : List ℕ → ℕ → Side → List ℕ
copy x i side = part (side_at i side) 34 x

-- the copy on this side counts, and it and its spare are as memory holds them
pub record Keeps (x : List ℕ) (i : ℕ) (held : Held) : Type 0 where
  pub counting : counts (copy x i held.side) (copy x i (other held.side)) ≡ true
  pub bytes : payload (copy x i held.side) ≡ held.payload
  pub marked : mark (copy x i held.side) ≡ held.mark
  pub spare : is_live (copy x i (other held.side)) ≡ held.spare_is_live
