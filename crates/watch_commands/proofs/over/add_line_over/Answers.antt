use Rattle.std.proofs.Common.{◌≡◌, ◌++◌, List, ℕ, Bool, ap, ◌∙◌, append_assoc}
use Rattle.std.specs.Prelude.{codes}
use Rattle.can_logs.specs.declared.map_lines.MapLine.{MapLine}
use Rattle.watch_commands.specs.declared.limits.Limits.{Limits}
use Rattle.watch_commands.specs.declared.counts.LineCounts.{LineCounts}
use Rattle.watch_commands.specs.Limits.{limit_over, limits_in}
use Rattle.watch_commands.specs.WatchTotals.{over_head, over_text, missed_of, missed_share_of}
use Rattle.watch_commands.proofs.over.add_line_over.Goals as goal

pub returns-clause-over : goal.returns-clause-over
returns-clause-over c =
    let json : Bool = c.args.options.json in
    let counts : LineCounts = c.args.counts.now in
    let entry : MapLine = c.args.entry.now in
    let begun : List ℕ = c.args.text.now.items in
    let head : List ℕ = over_head json counts.number entry in
    let limits : Limits = limits_in c.args.options in
    let missed : Limits → ℕ → List ℕ = λ l n. over_text json head (codes "missed") n (limit_over l.missed n) in
    let share : Limits → ℕ → List ℕ = λ l n. over_text json head (codes "missed-share") n (limit_over l.missed_share n) in
    let first : c.add_measure_of.new.text.items ≡ begun ++ missed limits (missed_of entry counts) =
    c.add_measure_of.ensures.over ∙ ap (λ (l : Limits). begun ++ missed l c.missed.result) c.limits_in-limits.ensures
    ∙ ap (λ (n : ℕ). begun ++ missed limits n) c.missed.ensures in
    c.add_measure_of-2.ensures.over ∙ ap (λ (l : Limits). c.add_measure_of.new.text.items ++ share l c.missed_share.result) c.limits_in-limits.ensures
    ∙ ap (λ (n : ℕ). c.add_measure_of.new.text.items ++ share limits n) c.missed_share.ensures
    ∙ ap (λ (x : List ℕ). x ++ share limits (missed_share_of entry counts)) first
    ∙ append_assoc begun (missed limits (missed_of entry counts)) (share limits (missed_share_of entry counts))
