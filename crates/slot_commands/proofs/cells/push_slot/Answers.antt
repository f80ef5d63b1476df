use Rattle.std.proofs.Common.{◌∷◌, ◌++◌, ◌∙◌, ap}
use Rattle.std.proofs.lemmas.Result.{on_ok_weaker}
use Rattle.std.specs.Prelude.{codes}
use Rattle.std.specs.Fmt.{decimal}
use Rattle.slot_commands.specs.StoreWords.{slot_state_words}
use Rattle.slot_commands.proofs.Texts.{two_and_more}
use Rattle.slot_commands.proofs.cells.push_slot.Goals as goal

pub returns : goal.returns
returns c =
    on_ok_weaker c.end_line.result
    (λ d. two_and_more c.args.text.now.items (codes "slot") (decimal c.args.place) (slot_state_words c.args.slot.now) _ _ _ _
    c.in_ok-extend_from_slice.ensures.items (c.in_ok-push_number.ensures ∙ ap (λ n. c.extend_from_slice.new.self.items ++ 32 ∷ decimal n) c.from.ensures) c.in_ok-push_slot_state.ensures d)
    c.end_line.ensures
