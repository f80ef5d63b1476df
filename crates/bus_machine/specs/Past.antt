-- What an event adds to the past of its node's disk
use Rattle.std.specs.Prelude.{ℕ, ◌+◌, Option, None, Some, length}
use Rattle.cut_disk.specs.declared.Mark.{Mark}
use Rattle.cut_disk.specs.declared.Mark.TheVariants as mark
use Rattle.bus_machine.specs.declared.events.Event.{Event}
use Rattle.bus_machine.specs.declared.events.Event.TheVariants.{Cut, Stop, Fail}
use Rattle.bus_machine.specs.Node.{Node}

-- the mark that an event leaves in the past of its node's disk
abbrev pub mark_of : Event → Option Mark
mark_of (Cut node torn) = Some (mark.Cut torn)
mark_of (Stop node calls) = Some (mark.Stop calls)
mark_of (Fail node calls) = Some (mark.Fail calls)
mark_of _ = None

-- the most entries that an event of a node adds: a cut reads a store of this many cells again, and another event puts
-- one cell
abbrev pub most_entries : ℕ → Event → ℕ
most_entries cells (Cut node torn) = 68 + cells
most_entries cells _ = 6

-- fourteen slots, and a bound for each route
abbrev pub cell_count : Node → ℕ
cell_count node = 14 + length node.config.routes
