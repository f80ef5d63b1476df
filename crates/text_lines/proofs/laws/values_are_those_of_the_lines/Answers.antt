use Rattle.text_lines.specs.Lines.{lines_of}
use Rattle.text_lines.proofs.FirstFault.{read-values}
use Rattle.text_lines.proofs.laws.values_are_those_of_the_lines.Goals as goal

pub returns : goal.returns
returns g c = λ reader most text values. read-values (g.R.LineReader.means reader) most (lines_of text) values
