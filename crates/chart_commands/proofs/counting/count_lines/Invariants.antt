-- the count is that of the lines so far
use Rattle.std.proofs.Common.{◌≡◌, ◌≤◌, take}
use Rattle.std.specs.Prelude.{count_by}
use Rattle.chart_commands.specs.Counts.{is_counted}
use Rattle.chart_commands.proofs.counting.count_lines.Given as goal

abbrev pub invariant-loop-line : goal.invariant-loop-line
invariant-loop-line l = (l.count ≡ count_by (is_counted l.kind) (take l.line-index l.lines)) × (l.count ≤ l.line-index)
