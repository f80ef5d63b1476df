-- the text so far and the rows that are left are the text before and all rows
use Rattle.std.proofs.Common.{◌≡◌, ◌+◌, ◌++◌, drop}
use Rattle.chart_commands.proofs.Pieces.{rows_from}
use Rattle.chart_commands.proofs.rows.push_rows.Given as goal

abbrev pub invariant-loop-place : goal.invariant-loop-place
invariant-loop-place l =
    l.text.items ++ rows_from l.events (l.place + 1) (drop l.place l.events) (drop l.place l.lines) ≡ l.fn.text.items ++ rows_from l.events 1 l.events l.lines
