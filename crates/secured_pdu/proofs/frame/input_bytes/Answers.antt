use Rattle.std.proofs.Common.{◌++◌, ap, ◌∙◌}
use Rattle.std.specs.Int.{w16, w64}
use Rattle.basics.specs.Numbers.{bytes_of}
use Rattle.basics.proofs.CallerLemmas.{to_be_bytes-is}
use Rattle.secured_pdu.specs.Frame.{authenticated_input}
use Rattle.secured_pdu.proofs.frame.input_bytes.Goals as goal

pub returns-clause-front : goal.returns-clause-front
unfolding authenticated_input
returns-clause-front c =
    let payload = c.args.payload.now in
    let id_is = c.append-after_id.ensures.front ∙ c.to_be_bytes.ensures ∙ to_be_bytes-is w16 c.args.id in
    let freshness_is = c.to_be_bytes-2.ensures ∙ to_be_bytes-is w64 c.args.freshness in
    let with_payload = c.append-after_payload.ensures.front ∙ ap (λ l. l ++ payload) id_is in
    c.append.ensures.front ∙ ap (λ l. l ++ c.to_be_bytes-2.result) with_payload ∙ ap (λ l. bytes_of 2 c.args.id ++ payload ++ l) freshness_is
