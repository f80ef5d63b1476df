-- What a gateway means to a proof: its node, the store of that node, and its pairs
use Rattle.std.specs.Prelude.{ℕ, List}
use Rattle.bus_machine.specs.Node.{Node}
use Rattle.cell_store.specs.Cells.{CellsState}
use Rattle.secoc_node.specs.State.{NodeState}

pub record GatewayState : Type 0 where
  pub node : Node
  pub store : CellsState
  pub pairs : List (ℕ × ℕ)

-- the node that it is over
abbrev pub over : GatewayState → NodeState
over g = record { node = g.node; store = g.store }
