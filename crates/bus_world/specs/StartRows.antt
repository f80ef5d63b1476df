-- How a start that is refused is answered, and what it leaves of the disks, whichever row it is
use Rattle.std.specs.Prelude.{◌≡◌, ◌⊎◌, ℕ, ◌<◌, Some, List, [], ◌++◌, length, drop, get_or, codes}
use Rattle.std.specs.Fmt.{decimal}
use Rattle.cut_disk.specs.State.{DiskState, Told}
use Rattle.cut_disk.specs.Calls.{Rose, Runs, IsQuiet}
use Rattle.cell_store.specs.declared.faults.Reread.{Reread}
use Rattle.cell_store.specs.declared.faults.Reread.TheVariants as reread
use Rattle.cell_store.specs.Faults.{store_fault}
use Rattle.any_cells.specs.FaultTexts.{store_fault_text}
use Rattle.program_edge.specs.Rows.{Row, row_of, memory_row}
use Rattle.bus_config.specs.declared.node_lines.NodeLine.{NodeLine}
use Rattle.bus_config.specs.Buses.{NamedBus}
use Rattle.bus_world.specs.declared.start.StartFault.{StartFault}
use Rattle.bus_world.specs.declared.start.StartFault.TheVariants as fault
use Rattle.cell_store.specs.declared.kinds.Kind.{Kind}
use Rattle.cell_store.specs.declared.kinds.Version.{Version}
use Rattle.freshness_routes.specs.Config.{Config}
use Rattle.bus_machine.specs.Node.{Kept}
use Rattle.bus_world.specs.declared.opening.OpenFault.TheVariants as open_fault
use Rattle.bus_world.specs.declared.start.Start.{Start}
use Rattle.bus_world.specs.declared.start.Start.TheVariants.{Format, Attach}
use Rattle.bus_world.specs.TakingUp.{KeptOn}
use Rattle.bus_world.specs.Starts.{start_calls, LeftOver, LeavesDisk, StaysFound, OfNumber, RefusedAt}

-- why a node's store isn't read again, with the line feed
abbrev pub reread_text : Reread → List ℕ
reread_text cause = store_fault_text (store_fault cause) ++ codes "\n"

-- 9 if the disks aren't such as the bus needs, 10 if a store fails, and out of memory; the text names a node by its
-- number, from 1
abbrev pub start_row : StartFault → Row
start_row fault.TooFew = row_of 9 (codes "disks: too few\n")
start_row (fault.TooSmall node) = row_of 9 (codes "disks: node " ++ (decimal node ++ codes " too small\n"))
start_row (fault.Store node cause) =
    row_of 10 (codes "store: node " ++ (decimal node ++ (codes ": " ++ reread_text cause)))
start_row (fault.BadSlot node slot) =
    row_of 10 (codes "store: node " ++ (decimal node ++ (codes ": BadSlot " ++ (decimal slot ++ codes "\n"))))
start_row (fault.BadBound node cell) =
    row_of 10 (codes "store: node " ++ (decimal node ++ (codes ": BadBound " ++ (decimal cell ++ codes "\n"))))
start_row fault.Memory = memory_row

-- the disk of the named node failed in the call: its count rose, and it wasn't quiet; or the node is refused for its
-- bytes
abbrev pub StoreCause : Start → NamedBus → List DiskState → List DiskState → StartFault → Type 0
StoreCause start bus before after (fault.Store number reread.DiskFailed) =
    OfNumber start bus before after number (λ config old new. Rose old.faults new.faults × ¬ IsQuiet old)
StoreCause start bus before after (fault.Store number cause) =
    RefusedAt start bus before after number (open_fault.Store cause)
StoreCause start bus before after (fault.BadSlot number slot) =
    RefusedAt start bus before after number (open_fault.BadSlot slot)
StoreCause start bus before after (fault.BadBound number cell) =
    RefusedAt start bus before after number (open_fault.BadBound cell)
StoreCause start bus before after fault = ⊥

-- only calls without a mark were made of the disk of each node, so it tells its bytes if it told them; it is left as
-- this start leaves a disk if it is refused; the others are as before
pub record LeavesEach (start : Start) (bus : NamedBus) (before after : List DiskState) : Type 0 where
  pub count : length after ≡ length before
  pub each : (i : ℕ) (l : NodeLine) (d : DiskState) → i < length bus.nodes
      → Runs [] (start_calls start bus.kind (get_or bus.nodes i l).config) (get_or before i d) (get_or after i d)
      × LeftOver start bus.kind bus.version (get_or bus.nodes i l).config (get_or before i d) (get_or after i d)
  pub rest : drop (length bus.nodes) after ≡ drop (length bus.nodes) before
  pub leaves : (i : ℕ) (l : NodeLine) (d : DiskState) → i < length bus.nodes
      → LeavesDisk start bus.kind bus.version (get_or bus.nodes i l).config (get_or before i d) (get_or after i d)
  pub stays : (i : ℕ) (l : NodeLine) (d : DiskState) → i < length bus.nodes
      → StaysFound start bus.kind bus.version (get_or bus.nodes i l).config (get_or before i d) (get_or after i d)

-- told bytes are such as a node is started over: any if they are formatted
abbrev pub CanStart : Start → Kind → Version → Config → List ℕ → Type 0
CanStart Format kind version config x = Unit {0}
CanStart Attach kind version config x = (kept : Kept) × KeptOn Attach kind version config x kept

-- the disk of each node tells bytes such as a node is started over, and was quiet, or didn't fail
abbrev pub DisksDo : Start → NamedBus → List DiskState → List DiskState → Type 0
DisksDo start bus before after =
    (i : ℕ) (l : NodeLine) (d : DiskState) → i < length bus.nodes
    → ((told : Told) × ((get_or before i d).told ≡ Some told)
    × CanStart start bus.kind bus.version (get_or bus.nodes i l).config told.bytes)
    × (IsQuiet (get_or before i d) ⊎ ¬ Rose (get_or before i d).faults (get_or after i d).faults)
