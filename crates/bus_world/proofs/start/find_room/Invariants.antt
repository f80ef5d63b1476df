use Rattle.std.proofs.Common.{◌<◌, ◌≤◌, ℕ, get_or, map}
use Rattle.cut_disk.specs.State.{DiskState}
use Rattle.cell_store.specs.Store.{store_size}
use Rattle.any_cells.specs.Either.{layout}
use Rattle.bus_config.specs.declared.node_lines.NodeLine.{NodeLine}
use Rattle.bus_world.specs.Starts.{cells_in}
use Rattle.bus_world.proofs.start.find_room.Given as goal

abbrev pub invariant-loop-place : goal.invariant-loop-place
invariant-loop-place g l =
    (i : ℕ) (n : NodeLine) (d : DiskState) → i < l.place
    → store_size (layout l.bus.kind l.bus.version) (cells_in (get_or l.bus.nodes i n).config) ≤ (get_or (map g.D.Disk.state l.disks) i d).size
