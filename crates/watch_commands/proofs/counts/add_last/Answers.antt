use Rattle.std.proofs.Common.{[], ◌++◌, List, ℕ, ap, ◌∙◌}
use Rattle.std.specs.Prelude.{codes}
use Rattle.std.specs.Int.{w64}
use Rattle.basics.specs.Numbers.{bytes_of}
use Rattle.basics.proofs.CallerLemmas.{to_be_bytes-is}
use Rattle.hex.specs.Hex.{encode_lower}
use Rattle.text_lines.specs.Texts.{line}
use Rattle.watch_commands.specs.WatchTotals.{before_value}
use Rattle.watch_commands.proofs.Parts.{three_parts}
use Rattle.watch_commands.proofs.counts.add_last.Goals as goal

pub returns-clause-last : goal.returns-clause-last
returns-clause-last c =
    three_parts c.args.text.now.items (before_value c.args.json (codes ",\"last\":\"") (codes " last ")) (encode_lower (bytes_of 8 c.args.last))
    (before_value c.args.json (line (codes "\"}")) (line []))
    _ _ _ (c.add_bytes.ensures.bytes ∙ ap (λ (x : List ℕ). c.args.text.now.items ++ x) c.before_value.ensures.text)
    (c.add_digits.ensures.digits ∙ ap (λ (x : List ℕ). c.add_bytes.new.text.items ++ encode_lower x) (c.to_be_bytes.ensures ∙ to_be_bytes-is w64 c.args.last))
    (c.add_bytes-2.ensures.bytes ∙ ap (λ (x : List ℕ). c.add_digits.new.text.items ++ x) c.before_value-2.ensures.text)
