use Rattle.std.proofs.Common.{ℕ, ◌&&◌, Bool, sym, ap, ◌∙◌}
use Rattle.explain_commands.specs.Explaining.{has_risen_at}
use Rattle.can_logs.proofs.CallerLemmas.{tests_more}
use Rattle.explain_commands.proofs.state.Explainer.have_risen.Goals as goal
use Rattle.explain_commands.proofs.state.Explainer.have_risen.Goals.{then-each, else-each}

pub loop-place-preserved : goal.loop-place-preserved
loop-place-preserved c =
    let place : ℕ = c.loop-place.place in
    let test : ℕ → Bool = has_risen_at c.args.self.now.mapping c.args.self.now.counters in
    elim c.if-each.branch [
      | then-each w ↦
          w.each-is ∙ w.has_risen-each.ensures ∙ ap (λ (b : Bool). b && test place) (sym w.if-each.true ∙ c.loop-place.invariant) ∙ sym (tests_more test place)
      | else-each w ↦
          w.each-is ∙ w.if-each.false ∙ ap (λ (b : Bool). b && test place) (sym w.if-each.false ∙ c.loop-place.invariant) ∙ sym (tests_more test place)
    ]
