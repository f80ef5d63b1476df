use Rattle.std.proofs.Common.{◌≡◌, [], length, map}
use Rattle.toml.specs.View.{view}
use Rattle.bus_config.specs.BusFile.{nodes_from}
use Rattle.bus_config.specs.Heads.{AreNewNodes}
use Rattle.bus_config.proofs.NodeRows.{nodes_left}
use Rattle.bus_config.proofs.nodes.read_nodes.Given as goal

abbrev pub invariant-loop-row : goal.invariant-loop-row
invariant-loop-row l = record {
  whole : nodes_left l.version l.nodes.items l.rows l.row-index ≡ nodes_from l.version [] (map view l.rows);
  counted : length l.nodes.items ≡ l.row-index;
  new : AreNewNodes l.version l.nodes.items;
}
