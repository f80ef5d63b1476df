use Rattle.std.proofs.Common.{◌∷◌, ◌++◌, ◌∙◌, ap}
use Rattle.std.proofs.lemmas.Result.{on_ok_weaker}
use Rattle.std.specs.Prelude.{codes}
use Rattle.std.specs.Fmt.{decimal}
use Rattle.std.specs.Int.{w16, w64}
use Rattle.basics.specs.Numbers.{bytes_of}
use Rattle.basics.proofs.CallerLemmas.{to_be_bytes-is}
use Rattle.hex.specs.Hex.{encode_lower}
use Rattle.slot_commands.specs.StoreWords.{direction_word}
use Rattle.slot_commands.proofs.Texts.{five_words}
use Rattle.slot_commands.proofs.cells.push_bound.Goals as goal

pub returns : goal.returns
returns c =
    let id = c.to_be_bytes.ensures ∙ to_be_bytes-is w16 c.args.id in
    let bound = c.to_be_bytes-2.ensures ∙ to_be_bytes-is w64 c.args.bound in
    on_ok_weaker c.end_line.result
    (λ d. five_words c.args.text.now.items (codes "bound") (decimal c.args.place) (encode_lower (bytes_of 2 c.args.id)) (direction_word c.args.direction) (encode_lower (bytes_of 8 c.args.bound))
    _ _ _ _ _ _ c.in_ok-extend_from_slice.ensures.items (c.in_ok-push_number.ensures ∙ ap (λ n. c.extend_from_slice.new.self.items ++ 32 ∷ decimal n) c.from.ensures)
    (c.in_ok-push_hex.ensures ∙ ap (λ b. c.push_number.new.text.items ++ 32 ∷ encode_lower b) id)
    (c.in_ok-push_word.ensures ∙ ap (λ b. c.push_hex.new.text.items ++ 32 ∷ b) c.direction_name.ensures)
    (c.in_ok-push_hex-2.ensures ∙ ap (λ b. c.push_word.new.text.items ++ 32 ∷ encode_lower b) bound) d)
    c.end_line.ensures
