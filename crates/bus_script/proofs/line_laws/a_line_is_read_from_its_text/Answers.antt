use Rattle.bus_script.proofs.OneToOne.{line_apart}
use Rattle.bus_script.proofs.line_laws.a_line_is_read_from_its_text.Goals as goal

pub returns : goal.returns
returns c = line_apart
