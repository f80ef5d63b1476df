use Rattle.std.proofs.Common.{[], ◌++◌, List, ℕ, Bool, ap, ◌∙◌}
use Rattle.std.specs.Prelude.{codes}
use Rattle.watch_commands.specs.declared.counts.LineCounts.{LineCounts}
use Rattle.watch_commands.specs.WatchTotals.{named, before_value, line_head, last_text, missed_of}
use Rattle.watch_commands.proofs.Parts.{six_parts}
use Rattle.watch_commands.proofs.counts.add_line_counts.Goals as goal

pub returns-clause-line : goal.returns-clause-line
returns-clause-line c =
    let counts : LineCounts = c.args.counts.now in
    let json : Bool = c.args.json in
    let begun : List ℕ = c.args.text.now.items in
    let missed_name : List ℕ = before_value json (codes ",\"missed\":") (codes " missed ") in
    six_parts begun (before_value json (codes "{\"kind\":\"line\",") []) (line_head json counts.number c.args.entry.now)
    (named (before_value json (codes "\",\"accepted\":") (codes " accepted ")) counts.accepted)
    (named (before_value json (codes ",\"failed\":") (codes " failed ")) counts.failed)
    (named missed_name (missed_of c.args.entry.now counts)) (last_text json counts.last)
    _ _ _ _ _ _ (c.add_bytes.ensures.bytes ∙ ap (λ (x : List ℕ). begun ++ x) c.before_value.ensures.text)
    c.add_line_head.ensures.head
    (c.add_number.ensures.number ∙ ap (λ (x : List ℕ). c.add_line_head.new.text.items ++ named x counts.accepted) c.before_value-2.ensures.text)
    (c.add_number-2.ensures.number ∙ ap (λ (x : List ℕ). c.add_number.new.text.items ++ named x counts.failed) c.before_value-3.ensures.text)
    (c.add_number-3.ensures.number
    ∙ ap (λ (x : List ℕ). c.add_number-2.new.text.items ++ named x c.missed.result) c.before_value-4.ensures.text
    ∙ ap (λ (n : ℕ). c.add_number-2.new.text.items ++ named missed_name n) c.missed.ensures)
    c.add_last.ensures.last
