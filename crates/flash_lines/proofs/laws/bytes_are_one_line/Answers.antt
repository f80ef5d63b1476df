use Rattle.flash_lines.proofs.LineLaws.{one_line, one_told}
use Rattle.flash_lines.proofs.laws.bytes_are_one_line.Goals as goal

pub returns-clause-line : goal.returns-clause-line
returns-clause-line c = one_line

pub returns-clause-sizes : goal.returns-clause-sizes
returns-clause-sizes c = one_told
