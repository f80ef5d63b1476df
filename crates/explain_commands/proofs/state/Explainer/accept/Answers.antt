use Rattle.std.proofs.Common.{List, ap, ◌∙◌}
use Rattle.explain_commands.specs.declared.recent.Accepted.{Accepted}
use Rattle.explain_commands.specs.declared.answers.LineAnswer.TheVariants as answer
use Rattle.explain_commands.specs.Explaining.{next_counters}
use Rattle.explain_commands.specs.ExplainStates.{ExplainState, after_answer}
use Rattle.explain_commands.specs.contracts.state.Explainer.{the_view}
use Rattle.explain_commands.proofs.state.Explainer.accept.Goals as goal

pub returns : goal.returns
returns c =
    let old : ExplainState = the_view c.self.inside in
    ap (λ (kept : List Accepted). record old { counters = next_counters old.counters c.args.accepted; recent = kept }) c.note.ensures
    ∙ ap (λ (s : ExplainState). after_answer s (answer.Accepted c.args.accepted)) c.self.view_is
