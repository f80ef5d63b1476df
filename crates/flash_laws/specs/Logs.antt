-- The log of a bank: its head, a copy of all cells, and the puts.
use Rattle.std.specs.Prelude.{◌≡◌, ℕ, suc, ◌+◌, Option, Some, None, List, [], ◌∷◌, ◌++◌, length, set}
use Rattle.flash_places.specs.declared.FlashLine.{FlashLine}
use Rattle.flash_places.specs.declared.FlashLine.TheVariants.{Head, Entry}

-- the cells of a store: a list of payloads
abbrev pub CellList : Type 0
CellList = List (List ℕ)

-- the lines of a copy of these cells, from this number on
abbrev pub copy_lines : ℕ → CellList → List FlashLine
copy_lines i [] = []
copy_lines i (cell ∷ cells) = Entry i cell ∷ copy_lines (suc i) cells

-- what lines make of cells
abbrev pub after_lines : List FlashLine → CellList → CellList
after_lines [] cells = cells
after_lines (Entry i payload ∷ lines) cells = after_lines lines (set cells i payload)
after_lines (Head generation ∷ lines) cells = after_lines lines cells

-- from place k on these lines are read, and then nothing
abbrev pub Spells : (ℕ → Option FlashLine) → ℕ → List FlashLine → Type 0
Spells read k [] = read k ≡ None
Spells read k (line ∷ lines) = (read k ≡ Some line) × Spells read (suc k) lines

-- What is read of a bank is the log of this generation of n cells. These are the cells, and the log ends before place
-- `next`.
pub record IsLog (n : ℕ) (read : ℕ → Option FlashLine) (generation : ℕ) (cells : CellList) (next : ℕ) : Type 0 where
  pub first : CellList
  pub count : length first ≡ n
  pub puts : List FlashLine
  pub head : read 0 ≡ Some (Head generation)
  pub lines : Spells read 1 (copy_lines 0 first ++ puts)
  pub now : cells ≡ after_lines puts first
  pub ends : next ≡ 1 + length (copy_lines 0 first ++ puts)
