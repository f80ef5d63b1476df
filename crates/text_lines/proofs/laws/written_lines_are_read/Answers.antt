use Rattle.text_lines.proofs.WrittenLines.{words-written}
use Rattle.text_lines.proofs.laws.written_lines_are_read.Goals as goal

pub returns : goal.returns
returns c = words-written
