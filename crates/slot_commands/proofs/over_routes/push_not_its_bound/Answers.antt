use Rattle.std.proofs.Common.{◌∷◌, ◌++◌, ◌∙◌, ap}
use Rattle.std.proofs.lemmas.Result.{on_ok_weaker}
use Rattle.std.specs.Prelude.{codes}
use Rattle.std.specs.Fmt.{decimal}
use Rattle.std.specs.Int.{w16}
use Rattle.basics.specs.Numbers.{bytes_of}
use Rattle.basics.proofs.CallerLemmas.{to_be_bytes-is}
use Rattle.hex.specs.Hex.{encode_lower}
use Rattle.slot_commands.specs.StoreWords.{direction_word}
use Rattle.slot_commands.proofs.Texts.{five_words}
use Rattle.slot_commands.proofs.over_routes.push_not_its_bound.Goals as goal

pub returns : goal.returns
returns c =
    let route = c.args.route.now in
    let id = c.to_be_bytes.ensures ∙ to_be_bytes-is w16 route.id in
    on_ok_weaker c.end_line.result
    (λ d. five_words c.args.text.now.items (codes "cell") (decimal c.args.place) (codes "BadBound") (encode_lower (bytes_of 2 route.id)) (direction_word route.direction)
    _ _ _ _ _ _ c.in_ok-extend_from_slice.ensures.items (c.in_ok-push_number.ensures ∙ ap (λ n. c.extend_from_slice.new.self.items ++ 32 ∷ decimal n) c.from.ensures)
    c.in_ok-push_word.ensures (c.in_ok-push_hex.ensures ∙ ap (λ b. c.push_word.new.text.items ++ 32 ∷ encode_lower b) id)
    (c.in_ok-push_word-2.ensures ∙ ap (λ b. c.push_hex.new.text.items ++ 32 ∷ b) c.direction_name.ensures) d)
    c.end_line.ensures
