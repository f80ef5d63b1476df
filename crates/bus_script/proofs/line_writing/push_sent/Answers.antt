use Rattle.std.proofs.Common.{[], ◌∷◌, ◌++◌, ap, ◌∙◌, sym, append-nil}
use Rattle.std.specs.Prelude.{codes}
use Rattle.basics.specs.Numbers.{bytes_of}
use Rattle.hex.specs.Hex.{encode_lower}
use Rattle.bus_script.proofs.Added.{four_added}
use Rattle.bus_script.proofs.line_writing.push_sent.Goals as goal

pub returns-clause-added : goal.returns-clause-added
returns-clause-added c =
    four_added c.args.text.now.items (32 ∷ codes "sent") (32 ∷ encode_lower (bytes_of 2 c.args.id)) (32 ∷ encode_lower (bytes_of 8 c.args.freshness)) (32 ∷ encode_lower c.args.pdu.now ++ [])
    _ _ _ _ c.in_ok-push_word.ensures.added c.in_ok-push_id.ensures.added c.in_ok-push_freshness.ensures.added
    (c.in_ok-push_hex.ensures.added ∙ ap (λ b. c.push_freshness.new.text.items ++ 32 ∷ b) (ap encode_lower c.bytes.ensures.value ∙ sym (append-nil (encode_lower c.args.pdu.now))))
