use Rattle.any_cells.specs.Either.{any_state}
use Rattle.slot_commands.proofs.listing.list_bytes.Goals as goal

pub returns-in-Ok-clause-listed : goal.returns-in-Ok-clause-listed
returns-in-Ok-clause-listed c = record {
  found = c.in_ok-found.found;
  cells = (any_state c.in_ok-found.store).cells;
  holds = c.in_ok-found.ensures.read;
  lists = c.in-Ok.ensures;
}
