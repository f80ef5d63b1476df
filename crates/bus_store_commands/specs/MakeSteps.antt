-- What the phases of a run of `slots make FILE BUS` say to one another
use Rattle.std.specs.Prelude.{◌≡◌, ℕ, false, Option, None, Some, List, codes, Result, Ok, Err}
use Rattle.cut_disk.specs.State.{DiskState}
use Rattle.program_edge.specs.Rows.{Row, row_of, memory_row}
use Rattle.program_edge.specs.Inputs.{Reading, IsUnread}
use Rattle.program_edge.specs.Endings.{Ending, EndsInRow}
use Rattle.freshness_routes.specs.Config.{IsConfig}
use Rattle.bus_config.specs.Buses.{NamedBus}
use Rattle.bus_store_commands.specs.declared.make.MakeJob.{MakeJob}
use Rattle.bus_store_commands.specs.declared.making.MakeFault.{MakeFault}
use Rattle.bus_store_commands.specs.NodeBuses.{ReadsNodeBus, LacksNodeBus}
use Rattle.bus_store_commands.specs.NodeStores.{StoreMade, StoreUnmade}
use Rattle.bus_store_commands.specs.BusWords.{asks_over_bus}
use Rattle.bus_store_commands.specs.MakeRows.{AsksMake, made_text, make_usage, node_config, IsMakeRow}
use Rattle.bus_store_commands.specs.MakeRows.{IsFileDisk, AddsFile}

-- why nothing is asked of a disk
pub data LacksMakeJob (words : List (List ℕ)) (bus : Reading) : Row → Type 0 where
  malformed : asks_over_bus (codes "make") words ≡ false → IsUnread bus → LacksMakeJob words bus (row_of 2 make_usage)
  lacks_node : (row : Row) → AsksMake words → LacksNodeBus bus row → LacksMakeJob words bus row
  lacks_room : (found : NamedBus) → AsksMake words → ReadsNodeBus bus found → LacksMakeJob words bus memory_row

-- how the first phase ends: in a bus and the text of its store, or in a row that comes before the disk is opened
abbrev pub PreparesMake : List (List ℕ) → Reading → Result MakeJob Row → Type 0
PreparesMake words bus (Ok job) = AsksMake words × ReadsNodeBus bus job.bus × (job.text.items ≡ made_text job.bus)
PreparesMake words bus (Err row) = LacksMakeJob words bus row

-- the row that comes of a disk before and after
pub data ComesOverDisk (bus : NamedBus) (disk after : DiskState) : Row → Type 0 where
  of_made : StoreMade bus.kind bus.version (node_config bus) disk after
      → ComesOverDisk bus disk after (row_of 0 (made_text bus))
  of_unmade : (cause : MakeFault) (row : Row) → IsConfig (node_config bus)
      → StoreUnmade bus.kind bus.version (node_config bus) disk after cause → IsMakeRow cause row
      → ComesOverDisk bus disk after row

-- how the second phase ends: there was no memory for the disk, and none was opened; or the one disk that the argument
-- opens, once, was handed back, with the row that comes of it
pub data EndsMake (opens : List ℕ → DiskState → Type 0) (before after : List (List ℕ)) (file : List ℕ) (bus : NamedBus)
    (left : Option DiskState) (e : Ending) : Type 0 where
  no_disk : after ≡ before → left ≡ None → EndsInRow (λ row. row ≡ memory_row) e
      → EndsMake opens before after file bus left e
  over_disk : (disk end : DiskState) → IsFileDisk opens file disk → AddsFile before file after → left ≡ Some end
      → EndsInRow (ComesOverDisk bus disk end) e → EndsMake opens before after file bus left e
