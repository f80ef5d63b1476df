-- the text so far has the headers so far
use Rattle.std.proofs.Common.{◌≡◌, ◌++◌}
use Rattle.std.specs.List.{flat_map, range_with_len}
use Rattle.chart_commands.specs.ChartTexts.{header_text}
use Rattle.chart_commands.proofs.headers.push_headers.Given as goal

abbrev pub invariant-loop-block : goal.invariant-loop-block
invariant-loop-block l = l.text.items ≡ l.fn.text.items ++ flat_map (header_text l.nodes) (range_with_len 0 l.block)
