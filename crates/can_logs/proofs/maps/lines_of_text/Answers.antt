use Rattle.can_logs.specs.WatchMaps.{watch_map_of}
use Rattle.can_logs.proofs.MapPhases.{no_map_lines}
use Rattle.can_logs.proofs.maps.lines_of_text.Goals as goal

pub returns-in-Err-clause-err : goal.returns-in-Err-clause-err
unfolding watch_map_of
returns-in-Err-clause-err c = no_map_lines _ c.in-Err.fault c.map_line_refusal.result c.in-Err.ensures c.map_line_refusal.ensures
