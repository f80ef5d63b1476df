-- the counters so far
use Rattle.std.proofs.Common.{◌≡◌, take, map}
use Rattle.can_logs.specs.declared.map_lines.MapLine.{MapLine}
use Rattle.can_logs.proofs.findings.counters_of.Given as goal

abbrev pub invariant-loop-line : goal.invariant-loop-line
invariant-loop-line l = l.counters.items ≡ map (λ (line : MapLine). line.counter) (take l.line-index l.map)
