use Rattle.std.proofs.Common.{◌≡◌, refl, subst, arith}
use Rattle.std.specs.Prelude.{ℕ, Some, [], slice_index_or, option_map}
use Rattle.any_cells.specs.Either.{any_state}
use Rattle.slot_commands.specs.Checked.{PushesFindings}
use Rattle.slot_commands.proofs.Finds.{found_none, found_more}
use Rattle.slot_commands.proofs.checking.push_bad_cells.Goals as goal

pub loop-place-init : goal.loop-place-init
loop-place-init c = found_none _ _ _ _ refl

pub loop-place-preserved : goal.loop-place-preserved
loop-place-preserved c = found_more _ _ _ _ _ _ c.loop-place.invariant c.in_ok-push_cell_if_bad.ensures

pub returns : goal.returns
returns c = subst (λ (n : ℕ). PushesFindings (option_map (λ r. r.now) c.args.routes)
    (λ place. Some (slice_index_or (any_state c.args.store.now).cells place [])) n c.args.text.now.items c.loop-place.text.items)
    (let e : c.loop-place.place ≡ c.args.cells = omega arith in e) c.loop-place.invariant
