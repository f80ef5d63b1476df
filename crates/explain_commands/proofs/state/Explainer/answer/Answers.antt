use Rattle.std.proofs.Common.{length, sym, subst}
use Rattle.explain_commands.specs.declared.answers.LineAnswer.{LineAnswer}
use Rattle.explain_commands.specs.ExplainStates.{ExplainState, IsPlacedAnswer}
use Rattle.explain_commands.proofs.Following.{placed_words}
use Rattle.explain_commands.proofs.state.Explainer.answer.Goals as goal

pub returns-clause-placed : goal.returns-clause-placed
returns-clause-placed c =
    subst (λ (s : ExplainState). IsPlacedAnswer (length s.mapping.lines) c.answer_words.result) c.self.view_is
    (subst (λ (a : LineAnswer). IsPlacedAnswer (length c.self.inside.map.lines) a) (sym c.answer_words.ensures) (placed_words _ _ _))
