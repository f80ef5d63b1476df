-- no answers of the lines so far have more bytes
use Rattle.std.proofs.Common.{◌≤◌, ℕ, List, length, take}
use Rattle.bus_commands.specs.Texts.{TellsEach}
use Rattle.bus_commands.proofs.questions.most_bytes_of.Given as goal

abbrev pub invariant-loop-line : goal.invariant-loop-line
invariant-loop-line g l = (text : List ℕ) → TellsEach g.Q.Question.Answers (take l.line-index l.lines) text → length text ≤ l.most
