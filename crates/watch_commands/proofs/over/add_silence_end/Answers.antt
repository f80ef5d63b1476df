use Rattle.std.proofs.Common.{[], ◌++◌, List, ℕ, Bool, ap, ◌∙◌}
use Rattle.std.specs.Prelude.{codes}
use Rattle.text_lines.specs.Texts.{line}
use Rattle.watch_commands.specs.declared.times.Silence.{Silence}
use Rattle.watch_commands.specs.Seconds.{seconds_text}
use Rattle.watch_commands.specs.WatchTotals.{before_value}
use Rattle.watch_commands.proofs.Parts.{seven_parts}
use Rattle.watch_commands.proofs.over.add_silence_end.Goals as goal

pub returns-clause-end : goal.returns-clause-end
returns-clause-end c =
    let json : Bool = c.args.json in
    let silence : Silence = c.args.silence in
    let begun : List ℕ = c.args.text.now.items in
    seven_parts begun (before_value json (codes "\"from\":\"") (codes "from ")) (seconds_text silence.from)
    (before_value json (codes "\",\"to\":\"") (codes " to ")) (seconds_text silence.to)
    (before_value json (codes "\",\"limit\":\"") (codes " limit ")) (seconds_text c.args.limit)
    (before_value json (line (codes "\"}")) (line []))
    _ _ _ _ _ _ _ (c.add_bytes.ensures.bytes ∙ ap (λ (x : List ℕ). begun ++ x) c.before_value.ensures.text)
    c.add_seconds.ensures.seconds
    (c.add_bytes-2.ensures.bytes ∙ ap (λ (x : List ℕ). c.add_seconds.new.text.items ++ x) c.before_value-2.ensures.text)
    c.add_seconds-2.ensures.seconds
    (c.add_bytes-3.ensures.bytes ∙ ap (λ (x : List ℕ). c.add_seconds-2.new.text.items ++ x) c.before_value-3.ensures.text)
    c.add_seconds-3.ensures.seconds
    (c.add_bytes-4.ensures.bytes ∙ ap (λ (x : List ℕ). c.add_seconds-3.new.text.items ++ x) c.before_value-4.ensures.text)
