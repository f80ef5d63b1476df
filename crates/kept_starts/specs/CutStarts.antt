-- What the next start finds if the first one, over a disk of zeros, was cut short
use Rattle.std.specs.Prelude.{◌≡◌, ◌⊎◌, ℕ, ◌+◌, ◌≤◌, List, length, get_or, replicate}
use Rattle.cut_disk.specs.State.{DiskState}
use Rattle.cut_disk.specs.Images.{firm, EachImage}
use Rattle.cell_store.specs.Layout.{base}
use Rattle.cell_store.specs.Store.{fresh_cells}
use Rattle.cell_store.specs.Formats.{Unformed}
use Rattle.any_cells.specs.Either.{layout}
use Rattle.any_cells.specs.Looking.{IsBlank}
use Rattle.program_edge.specs.Rows.{Row}
use Rattle.bus_config.specs.Buses.{NamedBus, IsNamedBus}
use Rattle.bus_world.specs.declared.start.Start.TheVariants.{Attach}
use Rattle.bus_world.specs.TakingUp.{new_cells}
use Rattle.bus_world.specs.Starts.{HasRoom}
use Rattle.bus_world.specs.StartAnswers.{ComesOfStart}
use Rattle.kept_starts.specs.LookedAt.{config_in_bus, size_in_bus, LookedAt}
use Rattle.kept_starts.specs.KeepRows.{CanGoOn}
use Rattle.kept_starts.specs.KeptStores.{FirstTells}

-- each byte after the header's place is zero, as it was, or that which a format of the node's store writes there
abbrev pub IsOldOrNew : NamedBus → List ℕ → Type 0
IsOldOrNew bus x = (k : ℕ) → (get_or x (base bus.version + 32 + k) 0 ≡ 0)
    ⊎ (get_or x (base bus.version + 32 + k) 0 ≡ get_or (fresh_cells bus.kind (new_cells (config_in_bus bus))) k 0)

-- The next start of the bus goes on over x. Or a format of the node's store was cut short over so many zeros, and left
-- x; the next start finishes it if the header's place is zeros still, and each byte after it is an old or a new one.
pub data FoundNext (bus : NamedBus) (size : ℕ) (x : List ℕ) : Type 0 where
  goes_on : CanGoOn bus x → FoundNext bus size x
  cut_short : Unformed (layout bus.kind bus.version) (new_cells (config_in_bus bus)) (replicate size 0) x
      → (IsBlank bus.version x → IsOldOrNew bus x → CanGoOn bus x) → FoundNext bus size x

-- Under any bus of one node, over a first disk of so many zeros: of a start that ended before its first event, whatever
-- a power cut leaves. A kill is read as a stop at a call of the disk.
abbrev pub CutFirstStarts : Type 0
CutFirstStarts = (bus : NamedBus) (before seen after : List DiskState) (size : ℕ) (row : Row) → IsNamedBus bus
    → length bus.nodes ≡ 1 → size_in_bus bus ≤ size → LookedAt bus before seen → HasRoom bus before
    → FirstTells before (firm (replicate size 0))
    → ComesOfStart Attach bus (record { before = seen; after = after }) row
    → (d : DiskState) → EachImage (get_or after 0 d).told (FoundNext bus size)
