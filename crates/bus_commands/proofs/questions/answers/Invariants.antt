-- the text so far has the answers of the lines so far
use Rattle.std.proofs.Common.{take}
use Rattle.bus_commands.specs.Texts.{TellsEach}
use Rattle.bus_commands.proofs.questions.answers.Given as goal

abbrev pub invariant-loop-line : goal.invariant-loop-line
invariant-loop-line g l = TellsEach g.Q.Question.Answers (take l.line-index l.lines) l.text.items
