use Rattle.std.proofs.Common.{rules, inl}
use Rattle.slot_commands.proofs.TaskWords.{few_ask_nothing, some_ask_nothing, many_ask_nothing}
use Rattle.slot_commands.proofs.tasks.task_in.Goals.{in_default-via-then-words-lt2, in_default-via-else-words-lt2+else-words-lt3+then-words-lt5, in_default-via-else-words-lt2+else-words-lt3+else-words-lt5+else-words-lt6}
use Rattle.slot_commands.proofs.tasks.task_in.Goals as goal

pub returns-in_default : goal.returns-in_default
returns-in_default c = inl (
  elim c.in_default.branch [
    | in_default-via-then-words-lt2 w ↦ few_ask_nothing c.args.words.now (search rules)
    | in_default-via-else-words-lt2+else-words-lt3+then-words-lt5 w ↦ some_ask_nothing c.args.words.now (search rules) (search rules)
    | in_default-via-else-words-lt2+else-words-lt3+else-words-lt5+else-words-lt6 w ↦ many_ask_nothing c.args.words.now (search rules)
  ],
  c.fixed.ensures,
)
