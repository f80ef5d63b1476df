use Rattle.std.proofs.Common.{◌∷◌, ◌++◌, ◌∙◌, ap}
use Rattle.std.proofs.lemmas.Result.{on_ok_weaker}
use Rattle.std.specs.Prelude.{codes}
use Rattle.std.specs.Int.{w16}
use Rattle.basics.specs.Numbers.{bytes_of}
use Rattle.basics.proofs.CallerLemmas.{to_be_bytes-is}
use Rattle.hex.specs.Hex.{encode_lower}
use Rattle.slot_commands.specs.StoreWords.{direction_word}
use Rattle.slot_commands.proofs.Texts.{four_words}
use Rattle.slot_commands.proofs.over_routes.push_no_cell.Goals as goal

pub returns : goal.returns
returns c =
    let route = c.args.route.now in
    let id = c.to_be_bytes.ensures ∙ to_be_bytes-is w16 route.id in
    on_ok_weaker c.end_line.result
    (λ d. four_words c.args.text.now.items (codes "route") (encode_lower (bytes_of 2 route.id)) (direction_word route.direction) (codes "NoCell")
    _ _ _ _ _ c.in_ok-extend_from_slice.ensures.items
    (c.in_ok-push_hex.ensures ∙ ap (λ b. c.extend_from_slice.new.self.items ++ 32 ∷ encode_lower b) id)
    (c.in_ok-push_word.ensures ∙ ap (λ b. c.push_hex.new.text.items ++ 32 ∷ b) c.direction_name.ensures) c.in_ok-push_word-2.ensures d)
    c.end_line.ensures
