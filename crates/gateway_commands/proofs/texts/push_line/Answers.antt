use Rattle.std.proofs.Common.{[], ◌∷◌}
use Rattle.std.specs.Prelude.{codes}
use Rattle.std.proofs.lemmas.Result.{on_ok_weaker}
use Rattle.basics.specs.Numbers.{bytes_of}
use Rattle.hex.specs.Hex.{encode_lower}
use Rattle.gateway_commands.proofs.Lines.{two_parts}
use Rattle.gateway_commands.proofs.texts.push_line.Goals as goal

pub returns-in_ok-push_arrival-in-Forwarded : goal.returns-in_ok-push_arrival-in-Forwarded
returns-in_ok-push_arrival-in-Forwarded c =
    rw c.in-Forwarded.is
    (on_ok_weaker c.push_departure.result
    (λ d. two_parts c.args.text.now.items c.push_arrival.new.text.items c.push_departure.new.text.items
    (codes "forwarded" ∷ encode_lower (bytes_of 2 c.in-Forwarded.id) ∷ encode_lower (bytes_of 8 c.in-Forwarded.freshness) ∷ [])
    (encode_lower (bytes_of 2 c.in-Forwarded.sent_id) ∷ encode_lower (bytes_of 8 c.in-Forwarded.sent_freshness) ∷ encode_lower c.in-Forwarded.pdu ∷ [])
    c.in_ok-push_arrival-in-Forwarded.ensures d)
    c.push_departure.ensures)
