use Rattle.std.proofs.Common.{◌≡◌, ◌∙◌, [], ap}
use Rattle.std.specs.Prelude.{string_bytes, codes}
use Rattle.std.specs.Fmt.{decimal}
use Rattle.std.proofs.lemmas.Result.{IfOk-weaker}
use Rattle.hex.specs.Hex.{encode_lower}
use Rattle.key_commands.specs.Texts.{row}
use Rattle.key_commands.proofs.Rows.{target_is}
use Rattle.key_commands.proofs.texts.target_text.Goals as goal

pub returns : goal.returns
returns c =
    IfOk-weaker c.format.result _ _
    (λ text h.
    let same : string_bytes text ≡ row (codes "uid") (string_bytes c.in_ok-uid.uid) (row (codes "id") (decimal c.number-id.result) (row (codes "auth") (decimal c.number-auth.result) [])) = h in
    same ∙ target_is c.args.update.now _ _ _ (c.in_ok-uid.ensures ∙ ap encode_lower (c.as_slice.ensures ∙ c.bytes.ensures.value)) c.number-id.ensures.value c.number-auth.ensures.value)
    c.format.ensures.ok
