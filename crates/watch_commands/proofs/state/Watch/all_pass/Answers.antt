use Rattle.std.proofs.Common.{ℕ, ◌&&◌, Bool, sym, ap, ◌∙◌}
use Rattle.watch_commands.specs.WatchTotals.{passes_at}
use Rattle.watch_commands.specs.States.{totals_in}
use Rattle.can_logs.proofs.CallerLemmas.{tests_more}
use Rattle.watch_commands.proofs.state.Watch.all_pass.Goals as goal
use Rattle.watch_commands.proofs.state.Watch.all_pass.Goals.{then-each, else-each}

pub loop-place-preserved : goal.loop-place-preserved
loop-place-preserved c =
    let place : ℕ = c.loop-place.place in
    let test : ℕ → Bool = passes_at c.args.self.now.mapping (totals_in c.args.self.now) in
    elim c.if-each.branch [
      | then-each w ↦
          w.each-is ∙ w.passes_at-each.ensures ∙ ap (λ (b : Bool). b && test place) (sym w.if-each.true ∙ c.loop-place.invariant) ∙ sym (tests_more test place)
      | else-each w ↦
          w.each-is ∙ w.if-each.false ∙ ap (λ (b : Bool). b && test place) (sym w.if-each.false ∙ c.loop-place.invariant) ∙ sym (tests_more test place)
    ]
