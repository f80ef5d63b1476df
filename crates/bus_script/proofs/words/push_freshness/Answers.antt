use Rattle.std.proofs.Common.{◌≡◌, ◌∷◌, ◌++◌, ◌∙◌, subst}
use Rattle.std.specs.Prelude.{OnOk}
use Rattle.std.specs.Int.{w64}
use Rattle.basics.proofs.CallerLemmas.{to_be_bytes-is}
use Rattle.hex.specs.Hex.{encode_lower}
use Rattle.bus_script.proofs.words.push_freshness.Goals as goal

pub returns-clause-added : goal.returns-clause-added
returns-clause-added c =
    subst (λ b. OnOk c.push_hex.result (c.push_hex.new.line.items ≡ c.args.text.now.items ++ 32 ∷ encode_lower b))
    (c.to_be_bytes.ensures ∙ to_be_bytes-is w64 c.args.freshness) c.push_hex.ensures.added
