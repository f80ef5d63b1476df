use Rattle.std.proofs.Common.{sym, ◌∙◌}
use Rattle.endpoint_commands.proofs.NoWords.{no_words}
use Rattle.endpoint_commands.proofs.rules.RuleReaderLineReader.read.Goals as goal

pub returns-then-is_empty : goal.returns-then-is_empty
returns-then-is_empty c = no_words c.args.self.now.routes.now c.args.before.now c.args.words.now (sym c.is_empty.ensures ∙ c.if-is_empty.true)
