use Rattle.bus_script.proofs.OneToOne.{text_of-apart}
use Rattle.bus_script.proofs.line_laws.texts_are_one_to_one.Goals as goal

pub returns : goal.returns
returns c = text_of-apart
