use Rattle.std.proofs.Common.{sym, ◌∙◌}
use Rattle.bus_script.proofs.NoWords.{no_words}
use Rattle.bus_script.proofs.reader.EventReaderLineReader.read.Goals as goal

pub returns-then-is_empty : goal.returns-then-is_empty
returns-then-is_empty c = no_words c.args.self.now.kinds.now c.args.self.now.bus.now.nodes c.args.words.now (sym c.is_empty.ensures ∙ c.if-is_empty.true)
