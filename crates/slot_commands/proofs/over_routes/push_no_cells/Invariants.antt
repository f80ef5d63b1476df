-- the text so far and the lines that are left are the text before and all lines
use Rattle.std.proofs.Common.{◌≡◌, ◌++◌, drop, map}
use Rattle.slot_commands.specs.RouteFindings.{no_cell_words}
use Rattle.slot_commands.specs.Stores.{written_lines}
use Rattle.slot_commands.proofs.over_routes.push_no_cells.Given as goal

abbrev pub invariant-loop-route : goal.invariant-loop-route
invariant-loop-route l =
    l.text.items ++ written_lines (map no_cell_words (drop l.route-index l.routes)) ≡ l.fn.text.items ++ written_lines (map no_cell_words l.routes)
