use Rattle.text_lines.specs.Lines.{lines_of}
use Rattle.text_lines.proofs.FirstFault.{read-first_fault}
use Rattle.text_lines.proofs.laws.a_fault_is_the_first.Goals as goal

pub returns : goal.returns
returns g c = λ reader most text fault. read-first_fault (g.R.LineReader.means reader) most (lines_of text) fault
