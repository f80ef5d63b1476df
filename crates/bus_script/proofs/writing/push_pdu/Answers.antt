use Rattle.std.proofs.Common.{◌∷◌, ◌++◌, ◌∙◌, ap}
use Rattle.std.proofs.lemmas.Result.{on_ok_weaker}
use Rattle.basics.specs.Numbers.{bytes_of}
use Rattle.hex.specs.Hex.{encode_lower}
use Rattle.text_lines.specs.Written.{bytes_word}
use Rattle.bus_script.proofs.BigEndian.{two_bytes}
use Rattle.bus_script.proofs.Pieces.{two_words}
use Rattle.bus_script.proofs.writing.push_pdu.Goals as goal

pub returns : goal.returns
returns c =
    on_ok_weaker c.push_bytes.result
    (λ d. two_words c.args.line.now.items (encode_lower (bytes_of 2 c.args.id)) (bytes_word c.args.bytes.now) _ _
    (c.in_ok-push_hex.ensures.added ∙ ap (λ b. c.args.line.now.items ++ 32 ∷ encode_lower b) (c.to_be_bytes.ensures ∙ two_bytes c.args.id)) d)
    c.push_bytes.ensures
