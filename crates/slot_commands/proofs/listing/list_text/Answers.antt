use Rattle.std.proofs.Common.{◌≡◌, ap, ◌∙◌, sym, ◌++◌, arith}
use Rattle.std.specs.Prelude.{List, ℕ}
use Rattle.any_cells.specs.Either.{any_state}
use Rattle.text_lines.specs.Written.{written}
use Rattle.slot_commands.specs.Stores.{head_words}
use Rattle.slot_commands.proofs.Finds.{listed_none, listed_more, listed_all}
use Rattle.slot_commands.proofs.listing.list_text.Goals as goal

pub loop-place-init : goal.loop-place-init
loop-place-init c =
    listed_none _ _ _ (c.in_ok-push_head.ensures ∙ ap (λ (l : List ℕ). l ++ written (head_words c.args.found)) c.new-text.ensures.items)

pub loop-place-preserved : goal.loop-place-preserved
loop-place-preserved c = listed_more _ _ _ _ _ c.loop-place.invariant c.in_ok-push_cell.ensures

pub returns : goal.returns
returns c =
    let all : c.loop-place.place ≡ c.args.found.cells = omega arith in
    listed_all (any_state c.args.store.now).cells (head_words c.args.found) c.loop-place.place c.loop-place.text.items c.loop-place.invariant (all ∙ sym c.requires)
