use Rattle.std.proofs.Common.{refl, ap, ◌∙◌}
use Rattle.std.specs.Prelude.{◌||◌}
use Rattle.adopt_commands.proofs.keeper.Keeper.take_over.Goals as goal

pub returns : goal.returns
returns g c = record {
  result = c.adopt-answer.result;
  step = c.adopt-answer.ensures.step;
  line_is = c.line_of-line.ensures;
  serves = c.adopt-answer.ensures.serves;
  untouched = c.adopt-answer.ensures.untouched;
  strict_is = refl;
  refused_is = c.either-self.ensures ∙ ap (λ b. c.args.self.now.refused || b) c.refuses.ensures;
}
