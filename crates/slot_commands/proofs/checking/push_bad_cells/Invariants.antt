use Rattle.std.specs.Prelude.{Some, [], slice_index_or, option_map}
use Rattle.any_cells.specs.Either.{any_state}
use Rattle.slot_commands.specs.Checked.{PushesFindings}
use Rattle.slot_commands.proofs.checking.push_bad_cells.Given as goal

abbrev pub invariant-loop-place : goal.invariant-loop-place
invariant-loop-place l = PushesFindings (option_map (λ r. r.now) l.routes)
    (λ place. Some (slice_index_or (any_state l.store).cells place [])) l.place l.fn.text.items l.text.items
