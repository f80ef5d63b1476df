-- What a meaning of a cell says, and the line that tells it
use Rattle.std.specs.Prelude.{◌≡◌, ℕ, ◌<◌, ◌≤◌, List, ◌++◌, codes}
use Rattle.slot_disk.specs.Cell.{HoldsSlot}
use Rattle.freshness_store.specs.Bound.{HoldsBound}
use Rattle.text_lines.specs.Written.{written}
use Rattle.slot_commands.specs.declared.cells.Meaning.{Meaning}
use Rattle.slot_commands.specs.declared.cells.Meaning.TheVariants.{Slot, Bound, BadSlot, BadBound}
use Rattle.slot_commands.specs.StoreWords.{slot_words, bound_words, cell_words}
use Rattle.slot_commands.specs.Cells.{slot_count, HoldsNoSlot, HoldsNoBoundAtAll}

-- the cell at this place means this
abbrev pub Means : ℕ → List ℕ → Meaning → Type 0
Means place cell (Slot slot) = (place < slot_count) × HoldsSlot cell slot
Means place cell (Bound id direction bound) = (slot_count ≤ place) × HoldsBound cell id direction bound
Means place cell BadSlot = (place < slot_count) × HoldsNoSlot cell
Means place cell BadBound = (slot_count ≤ place) × HoldsNoBoundAtAll cell

-- the words of its line
abbrev pub meaning_words : ℕ → Meaning → List (List ℕ)
meaning_words place (Slot slot) = slot_words place slot
meaning_words place (Bound id direction bound) = bound_words place id direction bound
meaning_words place BadSlot = cell_words place (codes "BadSlot")
meaning_words place BadBound = cell_words place (codes "BadBound")

-- its line was added
abbrev pub PushesMeaning : ℕ → Meaning → List ℕ → List ℕ → Type 0
PushesMeaning place meaning old new = new ≡ old ++ written (meaning_words place meaning)
