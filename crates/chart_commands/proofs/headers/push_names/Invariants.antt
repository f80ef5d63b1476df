-- the text so far and the boxes that are left are the text before and all boxes
use Rattle.std.proofs.Common.{◌≡◌, ◌++◌, drop}
use Rattle.chart_commands.specs.ChartTexts.{name_boxes}
use Rattle.chart_commands.proofs.headers.push_names.Given as goal

abbrev pub invariant-loop-place : goal.invariant-loop-place
invariant-loop-place l = l.text.items ++ name_boxes l.block l.place (drop l.place l.nodes) ≡ l.fn.text.items ++ name_boxes l.block 0 l.nodes
