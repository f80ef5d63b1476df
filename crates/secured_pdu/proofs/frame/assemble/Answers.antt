use Rattle.std.proofs.Common.{◌%◌, ◌∷◌, [], ◌++◌, ap, ◌∙◌}
use Rattle.std.proofs.lemmas.List.{append_assoc}
use Rattle.secured_pdu.specs.Frame.{assembled}
use Rattle.secured_pdu.proofs.frame.assemble.Goals as goal

pub returns-clause-front : goal.returns-clause-front
unfolding assembled
returns-clause-front c =
    let payload = c.args.payload.now in
    let low = c.args.freshness % 256 in
    let with_low = c.append-after_low.ensures.front ∙ ap (λ l. l ++ low ∷ []) c.append-after_payload.ensures.front in
    c.append.ensures.front ∙ ap (λ l. l ++ c.tag_of.result) with_low ∙ append_assoc payload (low ∷ []) c.tag_of.result ∙ ap (λ t. payload ++ low ∷ t) c.tag_of.ensures
