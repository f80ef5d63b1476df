use Rattle.std.proofs.Common.{[], ◌++◌, List, ℕ, Bool, ap, ◌∙◌}
use Rattle.std.specs.Prelude.{codes}
use Rattle.text_lines.specs.Texts.{line}
use Rattle.watch_commands.specs.WatchTotals.{named, before_value}
use Rattle.watch_commands.proofs.Parts.{five_parts}
use Rattle.watch_commands.proofs.over.add_over_end.Goals as goal

pub returns-clause-end : goal.returns-clause-end
returns-clause-end c =
    let json : Bool = c.args.json in
    let begun : List ℕ = c.args.text.now.items in
    five_parts begun (before_value json (codes "\"what\":\"") []) c.args.name.now
    (named (before_value json (codes "\",\"number\":") (codes " ")) c.args.number)
    (named (before_value json (codes ",\"limit\":") (codes " limit ")) c.args.most)
    (before_value json (line (codes "}")) (line []))
    _ _ _ _ _ (c.add_bytes.ensures.bytes ∙ ap (λ (x : List ℕ). begun ++ x) c.before_value.ensures.text)
    c.add_bytes-2.ensures.bytes
    (c.add_number.ensures.number ∙ ap (λ (x : List ℕ). c.add_bytes-2.new.text.items ++ named x c.args.number) c.before_value-2.ensures.text)
    (c.add_number-2.ensures.number ∙ ap (λ (x : List ℕ). c.add_number.new.text.items ++ named x c.args.most) c.before_value-3.ensures.text)
    (c.add_bytes-3.ensures.bytes ∙ ap (λ (x : List ℕ). c.add_number-2.new.text.items ++ x) c.before_value-4.ensures.text)
