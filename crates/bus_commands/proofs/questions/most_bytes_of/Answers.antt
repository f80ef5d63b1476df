use Rattle.bus_commands.proofs.AnswerSizes.{answers_fit-at}
use Rattle.bus_commands.proofs.questions.most_bytes_of.Goals as goal

pub loop-line-preserved : goal.loop-line-preserved
loop-line-preserved g c =
    answers_fit-at g.Q.Question.Answers c.args.lines.now c.loop-line.line-index c.line-item.result _ c.most_bytes.result _ c.loop-line-test.true c.line-item.is
    c.in-Some.ensures.1 c.loop-line.invariant c.most_bytes.ensures
