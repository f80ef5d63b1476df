use Rattle.std.proofs.Common.{◌≡◌, ◌∙◌, [], ap}
use Rattle.std.specs.Prelude.{string_bytes, codes}
use Rattle.std.specs.Fmt.{decimal}
use Rattle.std.proofs.lemmas.Result.{IfOk-weaker}
use Rattle.hex.specs.Hex.{encode_lower}
use Rattle.key_commands.specs.Texts.{row}
use Rattle.key_commands.proofs.Rows.{content_is}
use Rattle.key_commands.proofs.texts.content_text.Goals as goal

pub returns : goal.returns
returns c =
    IfOk-weaker c.format.result _ _
    (λ text h.
    let same : string_bytes text ≡ row (codes "counter") (decimal c.number-counter.result) (row (codes "flags") (string_bytes c.in_ok-flags.flags) (row (codes "key") (string_bytes c.in_ok-key.key) [])) = h in
    same ∙ content_is c.args.update.now _ _ _ c.number-counter.ensures.value c.in_ok-flags.ensures (c.in_ok-key.ensures ∙ ap encode_lower c.as_slice.ensures.value))
    c.format.ensures.ok
