use Rattle.trace_audit.proofs.Windows.{map_of-windows}
use Rattle.trace_audit.proofs.laws.audited_lines_have_windows.Goals as goal

pub returns : goal.returns
returns c = λ text mapping. map_of-windows text mapping
