use Rattle.bus_commands.proofs.Each.{TellsEach-at}
use Rattle.bus_commands.proofs.questions.answers.Goals as goal

pub loop-line-preserved : goal.loop-line-preserved
loop-line-preserved g c =
    TellsEach-at g.Q.Question.Answers c.args.lines.now c.loop-line.line-index c.line-item.result _ _ c.loop-line-test.true c.line-item.is
    c.loop-line.invariant c.in_ok-push_answer.ensures
