use Rattle.std.proofs.Common.{[], ◌∷◌, ◌++◌, ap, ◌∙◌}
use Rattle.std.specs.Prelude.{codes}
use Rattle.basics.specs.Numbers.{bytes_of}
use Rattle.hex.specs.Hex.{encode_lower}
use Rattle.bus_script.specs.LineTexts.{source_word}
use Rattle.text_lines.specs.Spaced.{spaced}
use Rattle.bus_script.proofs.Added.{five_added}
use Rattle.bus_script.proofs.line_writing.push_accepted.Goals as goal

pub returns-clause-added : goal.returns-clause-added
returns-clause-added c =
    five_added c.args.text.now.items (32 ∷ codes "accepted") (32 ∷ encode_lower (bytes_of 2 c.args.id)) (32 ∷ encode_lower (bytes_of 8 c.args.freshness)) (32 ∷ encode_lower c.args.payload.now)
    (spaced (codes "from" ∷ source_word c.args.from ∷ []))
    _ _ _ _ _ c.in_ok-push_word.ensures.added c.in_ok-push_id.ensures.added c.in_ok-push_freshness.ensures.added
    (c.in_ok-push_hex.ensures.added ∙ ap (λ b. c.push_freshness.new.text.items ++ 32 ∷ encode_lower b) c.bytes.ensures.value)
    c.in_ok-push_source.ensures.added
