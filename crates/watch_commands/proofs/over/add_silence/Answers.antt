use Rattle.std.proofs.Common.{◌≡◌, ◌++◌, List, ℕ, Bool, sym, ap, ◌∙◌}
use Rattle.std.specs.Prelude.{codes, Option, Some}
use Rattle.watch_commands.specs.declared.times.Silence.{Silence}
use Rattle.watch_commands.specs.Limits.{limit_reached}
use Rattle.watch_commands.specs.Silences.{lasts}
use Rattle.watch_commands.specs.WatchTotals.{before_value, over_head, silence_end, silence_text}
use Rattle.watch_commands.proofs.Parts.{three_parts}
use Rattle.watch_commands.proofs.over.add_silence.Goals as goal

pub returns-clause-silence : goal.returns-clause-silence
returns-clause-silence c =
    let json : Bool = c.args.json in
    let begun : List ℕ = c.args.text.now.items in
    let silence : Silence = c.args.counts.now.silence in
    let head : List ℕ = over_head json c.args.counts.now.number c.args.entry.now in
    let passed : limit_reached c.args.limit (lasts silence) ≡ Some c.in-Some.limit =
    ap (limit_reached c.args.limit) (sym c.lasts.ensures) ∙ sym c.limit_reached.ensures ∙ c.in-Some.is in
    three_parts begun (before_value json (codes "{\"kind\":\"silent\",") (codes "silent ")) head (silence_end json silence c.in-Some.limit)
    _ _ _ (c.add_bytes.ensures.bytes ∙ ap (λ (x : List ℕ). begun ++ x) c.before_value.ensures.text)
    c.add_over_head.ensures.head c.add_silence_end.ensures.end
    ∙ ap (λ (o : Option ℕ). begun ++ silence_text json head silence o) (sym passed)
