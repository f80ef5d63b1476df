use Rattle.std.proofs.Common.{[], ◌++◌, List, ℕ, Bool, ap, ◌∙◌}
use Rattle.std.specs.Prelude.{codes}
use Rattle.text_lines.specs.Texts.{line}
use Rattle.watch_commands.specs.declared.counts.WatchCounts.{WatchCounts}
use Rattle.watch_commands.specs.WatchTotals.{before_value, count_text}
use Rattle.watch_commands.proofs.Parts.{seven_parts}
use Rattle.watch_commands.proofs.counts.add_counts.Goals as goal

pub returns-clause-lines : goal.returns-clause-lines
returns-clause-lines c =
    let json : Bool = c.args.json in
    let counts : WatchCounts = c.args.counts.now in
    let begun : List ℕ = c.args.text.now.items in
    seven_parts begun (before_value json (codes "{\"kind\":\"log\"") [])
    (count_text json (codes ",\"accepted\":") (codes "accepted ") counts.accepted)
    (count_text json (codes ",\"failed\":") (codes "failed ") counts.failed)
    (count_text json (codes ",\"unmapped\":") (codes "unmapped ") counts.unmapped)
    (count_text json (codes ",\"other_frames\":") (codes "other frames ") counts.other_frames)
    (count_text json (codes ",\"malformed\":") (codes "malformed ") counts.malformed)
    (before_value json (line (codes "}")) [])
    _ _ _ _ _ _ _ (c.add_bytes.ensures.bytes ∙ ap (λ (x : List ℕ). begun ++ x) c.before_value.ensures.text)
    c.add_count.ensures.count c.add_count-2.ensures.count c.add_count-3.ensures.count c.add_count-4.ensures.count c.add_count-5.ensures.count
    (c.add_bytes-2.ensures.bytes ∙ ap (λ (x : List ℕ). c.add_count-5.new.text.items ++ x) c.before_value-2.ensures.text)
