use Rattle.std.proofs.Common.{◌≡◌, ◌∙◌, length, sym, ap, subst}
use Rattle.std.specs.Prelude.{IfSome}
use Rattle.watch_commands.specs.WatchedMaps.{WatchedMap}
use Rattle.watch_commands.specs.States.{WatchState, WatchesNext, IsPlaced, heard_after}
use Rattle.watch_commands.proofs.Going.{WatchesNext-judged}
use Rattle.watch_commands.proofs.state.Watch.take.Goals as goal

pub returns-clause-takes : goal.returns-clause-takes
returns-clause-takes c =
    subst (WatchesNext c.args.self.now c.args.number c.args.line.now)
    (sym (c.hear.ensures ∙ ap (heard_after c.judge_line-judged.result.tally c.judge_line-judged.result.time) c.count.ensures))
    (WatchesNext-judged c.args.self.now c.judge_line-judged.new.self c.args.number c.args.line.now c.judge_line-judged.result.tally c.judge_line-judged.result.time
    c.judge_line-judged.ensures.judges)

pub count-requires : goal.count-requires
count-requires c =
    let same : c.judge_line-judged.new.self.mapping ≡ c.args.self.now.mapping = ap (λ (s : WatchState). s.mapping) c.judge_line-judged.ensures.judges.2 in
    subst (λ (m : WatchedMap). IfSome c.judge_line-judged.result.tally (IsPlaced (length m.lines))) (sym same) c.judge_line-judged.ensures.placed

pub hear-requires : goal.hear-requires
hear-requires c =
    let same : c.count.new.self.mapping ≡ c.args.self.now.mapping =
    ap (λ (s : WatchState). s.mapping) c.count.ensures ∙ ap (λ (s : WatchState). s.mapping) c.judge_line-judged.ensures.judges.2 in
    subst (λ (m : WatchedMap). IfSome c.judge_line-judged.result.tally (IsPlaced (length m.lines))) (sym same) c.judge_line-judged.ensures.placed
