-- When a state of a disk fits a node (own): its store is to keep the cells of what the node keeps
use Rattle.std.specs.Prelude.{ℕ, List, option_map}
use Rattle.cut_disk.specs.State.{Told}
use Rattle.cell_store.specs.declared.kinds.Layout.{Layout}
use Rattle.store_keeping.specs.Keeping.{Keeping, StandsForKept, Fits}
use Rattle.bus_machine.specs.Node.{Node, changed}
use Rattle.secoc_node.specs.Cells.{CellsOf}

-- the cells of what the node keeps, and if a change is pending those with the change made
abbrev pub node_keeping : Node → Keeping
node_keeping node = record {
  cells = CellsOf node.config node.kept;
  pending = option_map (λ change. CellsOf node.config (changed change node.kept)) node.pending;
  up = node.up;
}

-- the bytes stand for one of these
abbrev pub StandsForNode : Layout → Node → List ℕ → Type 0
StandsForNode layout node x = StandsForKept layout (node_keeping node) x

-- whatever a power cut may leave stands for the node, and while the node is up no byte is loose
abbrev pub FitsNode : Layout → Node → Told → Type 0
FitsNode layout node told = Fits layout (node_keeping node) told
