use Rattle.any_cells.specs.Either.{any_state}
use Rattle.text_lines.specs.Written.{written}
use Rattle.slot_commands.specs.Stores.{head_words}
use Rattle.slot_commands.proofs.Finds.{ListedTo}
use Rattle.slot_commands.proofs.listing.list_text.Given as goal

abbrev pub invariant-loop-place : goal.invariant-loop-place
invariant-loop-place l = ListedTo (any_state l.store).cells (written (head_words l.fn.found)) l.place l.text.items
