use Rattle.can_logs.proofs.MapWindows.{watch_map_of-windows}
use Rattle.can_logs.proofs.laws.watched_lines_have_windows.Goals as goal

pub returns : goal.returns
returns c = λ text mapping. watch_map_of-windows text mapping
