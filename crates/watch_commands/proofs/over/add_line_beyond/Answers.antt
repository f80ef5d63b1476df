use Rattle.std.proofs.Common.{◌++◌, List, ℕ, ap, ◌∙◌, append_assoc}
use Rattle.watch_commands.specs.WatchTotals.{line_over, line_silence}
use Rattle.watch_commands.proofs.over.add_line_beyond.Goals as goal

pub returns-clause-beyond : goal.returns-clause-beyond
returns-clause-beyond c =
    let over : List ℕ = line_over c.args.options c.args.counts.now c.args.entry.now in
    let silence : List ℕ = line_silence c.args.options c.args.counts.now c.args.entry.now in
    c.add_line_silence.ensures.silence ∙ ap (λ (x : List ℕ). x ++ silence) c.add_line_over.ensures.over ∙ append_assoc c.args.text.now.items over silence
