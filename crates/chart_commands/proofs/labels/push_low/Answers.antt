use Rattle.std.proofs.Common.{◌≡◌, ◌++◌, ◌%◌, ◌∙◌, subst}
use Rattle.std.specs.Prelude.{OnOk}
use Rattle.std.specs.Int.{w16}
use Rattle.basics.proofs.CallerLemmas.{to_be_bytes-is}
use Rattle.hex.specs.Hex.{encode_lower}
use Rattle.chart_commands.proofs.labels.push_low.Goals as goal

pub returns : goal.returns
returns c =
    subst (λ b. OnOk c.push_digits.result (c.push_digits.new.text.items ≡ c.args.text.now.items ++ encode_lower b))
    (c.to_be_bytes.ensures ∙ to_be_bytes-is w16 (c.args.freshness % 65536)) c.push_digits.ensures.digits
