-- the text so far has the lifelines of the nodes so far
use Rattle.std.proofs.Common.{◌≡◌, ◌++◌}
use Rattle.std.specs.List.{flat_map, range_with_len}
use Rattle.chart_commands.specs.ChartTexts.{lifeline_text}
use Rattle.chart_commands.proofs.lifeline_paths.push_lifelines.Given as goal

abbrev pub invariant-loop-node : goal.invariant-loop-node
invariant-loop-node l = l.text.items ≡ l.fn.text.items ++ flat_map (lifeline_text l.events l.lines) (range_with_len 0 l.node)
