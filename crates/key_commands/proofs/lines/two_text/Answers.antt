use Rattle.std.proofs.Common.{◌≡◌, ◌∙◌, ◌++◌, ap, length, rules}
use Rattle.std.specs.Prelude.{string_bytes}
use Rattle.std.proofs.lemmas.Result.{IfOk-weaker}
use Rattle.hex.specs.Hex.{encode_lower}
use Rattle.key_commands.proofs.TextLaws.{two_digits}
use Rattle.key_commands.proofs.lines.two_text.Goals as goal

pub returns : goal.returns
returns c =
    let two : length c.args.blocks.now ≡ 2 = search rules in
    IfOk-weaker c.format.result _ _
    (λ text h.
    let same : string_bytes text ≡ string_bytes c.in_ok-front.front ++ string_bytes c.in_ok-back.back = h in
    same ∙ two_digits c.args.blocks.now _ _ _ _ two (c.in_ok-front.ensures ∙ ap encode_lower c.as_slice.ensures.value) (c.in_ok-back.ensures ∙ ap encode_lower c.as_slice-2.ensures.value))
    c.format.ensures.ok
