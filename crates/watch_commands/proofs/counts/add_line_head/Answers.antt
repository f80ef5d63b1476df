use Rattle.std.proofs.Common.{◌++◌, List, ℕ, Bool, ap, ◌∙◌}
use Rattle.std.specs.Prelude.{codes}
use Rattle.std.specs.Int.{w16}
use Rattle.basics.specs.Numbers.{bytes_of}
use Rattle.basics.proofs.CallerLemmas.{to_be_bytes-is}
use Rattle.hex.specs.Hex.{encode_lower}
use Rattle.can_logs.specs.MapLines.{row_head}
use Rattle.watch_commands.specs.WatchTotals.{named, before_value, can_text}
use Rattle.watch_commands.proofs.Parts.{six_parts}
use Rattle.watch_commands.proofs.counts.add_line_head.Goals as goal

pub returns-clause-head : goal.returns-clause-head
returns-clause-head c =
    let json : Bool = c.args.json in
    six_parts c.args.text.now.items (named (before_value json (codes "\"line\":") (codes "line ")) c.args.number)
    (before_value json (codes ",\"name\":\"") (codes " ")) (row_head c.args.entry.now) (can_text json c.args.entry.now)
    (before_value json (codes "\",\"id\":\"") (codes " ")) (encode_lower (bytes_of 2 c.args.entry.now.id))
    _ _ _ _ _ _ (c.add_number.ensures.number ∙ ap (λ (x : List ℕ). c.args.text.now.items ++ named x c.args.number) c.before_value.ensures.text)
    (c.add_bytes.ensures.bytes ∙ ap (λ (x : List ℕ). c.add_number.new.text.items ++ x) c.before_value-2.ensures.text)
    (c.add_bytes-2.ensures.bytes ∙ ap (λ (x : List ℕ). c.add_bytes.new.text.items ++ x) c.head.ensures.value)
    c.add_can.ensures.can
    (c.add_bytes-3.ensures.bytes ∙ ap (λ (x : List ℕ). c.add_can.new.text.items ++ x) c.before_value-3.ensures.text)
    (c.add_digits.ensures.digits ∙ ap (λ (x : List ℕ). c.add_bytes-3.new.text.items ++ encode_lower x) (c.to_be_bytes.ensures ∙ to_be_bytes-is w16 c.args.entry.now.id))
