use Rattle.std.proofs.Common.{◌≡◌, ◌++◌, List, ℕ, Bool, sym, ap, ◌∙◌}
use Rattle.std.specs.Prelude.{codes, Option, Some}
use Rattle.watch_commands.specs.Limits.{limit_over}
use Rattle.watch_commands.specs.WatchTotals.{before_value, over_head, over_end, over_text}
use Rattle.watch_commands.proofs.Parts.{three_parts}
use Rattle.watch_commands.proofs.over.add_measure_of.Goals as goal

pub returns-clause-over : goal.returns-clause-over
returns-clause-over c =
    let json : Bool = c.args.json in
    let begun : List ℕ = c.args.text.now.items in
    let name : List ℕ = c.args.measure.name.now in
    let head : List ℕ = over_head json c.args.line c.args.entry.now in
    let passed : limit_over c.args.measure.limit c.args.measure.number ≡ Some c.in-Some.most = sym c.limit_over.ensures ∙ c.in-Some.is in
    three_parts begun (before_value json (codes "{\"kind\":\"over\",") (codes "over ")) head (over_end json name c.args.measure.number c.in-Some.most)
    _ _ _ (c.add_bytes.ensures.bytes ∙ ap (λ (x : List ℕ). begun ++ x) c.before_value.ensures.text)
    c.add_over_head.ensures.head c.add_over_end.ensures.end
    ∙ ap (λ (o : Option ℕ). begun ++ over_text json head name c.args.measure.number o) (sym passed)
