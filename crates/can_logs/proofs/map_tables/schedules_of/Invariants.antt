-- the keys so far
use Rattle.std.proofs.Common.{◌≡◌, take, map}
use Rattle.can_logs.specs.declared.map_lines.MapLine.{MapLine}
use Rattle.can_logs.proofs.map_tables.schedules_of.Given as goal

abbrev pub invariant-loop-line : goal.invariant-loop-line
invariant-loop-line l = l.schedules.items ≡ map (λ (line : MapLine). line.key) (take l.line-index l.lines)
