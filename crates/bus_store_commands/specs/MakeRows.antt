-- The table of answers of `slots make FILE BUS`: its rows, and when each comes
use Rattle.std.specs.Prelude.{◌≡◌, ◌⊎◌, ℕ, true, false, Option, None, Some, List, [], ◌∷◌, ◌++◌, slice_index_or, codes}
use Rattle.std.specs.Fmt.{decimal}
use Rattle.cut_disk.specs.State.{DiskState}
use Rattle.cell_store.specs.declared.faults.StoreFault.TheVariants as store
use Rattle.file_disk.specs.NamedDisks.{TellsFirmBytes}
use Rattle.text_lines.specs.Texts.{line}
use Rattle.text_lines.specs.Written.{written}
use Rattle.program_edge.specs.Rows.{Row, row_of, memory_row}
use Rattle.program_edge.specs.Inputs.{Reading, IsUnread}
use Rattle.freshness_routes.specs.Config.{Config, IsConfig}
use Rattle.bus_config.specs.Buses.{NamedBus}
use Rattle.bus_script.specs.EventForms.{node_line_at}
use Rattle.bus_world.specs.TakingUp.{cells_in}
use Rattle.key_commands.specs.Opening.{store_text, fault_row, bad_slot_row}
use Rattle.slot_commands.specs.StoreWords.{store_line_words}
use Rattle.bus_store_commands.specs.declared.making.MakeFault.{MakeFault}
use Rattle.bus_store_commands.specs.declared.making.MakeFault.TheVariants as fault
use Rattle.bus_store_commands.specs.NodeBuses.{ReadsNodeBus, LacksNodeBus}
use Rattle.bus_store_commands.specs.NodeStores.{StoreMade, StoreUnmade}
use Rattle.bus_store_commands.specs.BusWords.{asks_over_bus}
use Rattle.bus_store_commands.specs.StandingRows.{standing_row}

-- What goes in and out: the words after `slots`, what was known of the bus file's source before and after, the words
-- that disks were opened by, and the disk that this run opened, if it did, as it was then and as it was left
pub record MakeInputs : Type 0 where
  pub words : List (List ℕ)
  pub bus : Reading
  pub disks_before : List (List ℕ)
  pub disks_after : List (List ℕ)
  pub opened : Option DiskState
  pub left : Option DiskState

-- `make FILE BUS`
abbrev pub AsksMake : List (List ℕ) → Type 0
AsksMake words = asks_over_bus (codes "make") words ≡ true

abbrev pub make_usage : List ℕ
make_usage = line (codes "usage: station slots make FILE BUS")

-- the configuration of the one node of a bus
abbrev pub node_config : NamedBus → Config
node_config bus = (node_line_at bus.nodes 0).config

-- `made KIND VERSION CELLS`
abbrev pub made_text : NamedBus → List ℕ
made_text bus = written (store_line_words (codes "made") bus.kind bus.version (cells_in (node_config bus)))

-- the row of a store that isn't made: 10 if the disk failed, and 9 for each other cause
abbrev pub make_row : MakeFault → Row
make_row (fault.Store store.DiskFailed) = row_of 10 (store_text (codes "DiskFailed"))
make_row (fault.Store store.Memory) = memory_row
make_row (fault.Store cause) = fault_row cause
make_row (fault.OtherStore there) = standing_row there
make_row (fault.BadSlot slot) = bad_slot_row slot
make_row (fault.BadBound place) = row_of 9 (store_text (codes "BadBound " ++ decimal place))

-- its text has a number, and is made when it is printed
abbrev pub HasNumber : MakeFault → Type 0
HasNumber (fault.Store (store.Damaged place)) = Unit {0}
HasNumber (fault.OtherStore there) = Unit {0}
HasNumber (fault.BadSlot slot) = Unit {0}
HasNumber (fault.BadBound place) = Unit {0}
HasNumber cause = ⊥

-- that row, or out of memory for its text
abbrev pub IsMakeRow : MakeFault → Row → Type 0
IsMakeRow cause row = (row ≡ make_row cause) ⊎ (HasNumber cause × (row ≡ memory_row))

-- no disk was opened
abbrev pub OpensNoDisk : MakeInputs → Type 0
OpensNoDisk i = (i.disks_after ≡ i.disks_before) × (i.opened ≡ None) × (i.left ≡ None)

-- the word FILE
abbrev pub make_file : List (List ℕ) → List ℕ
make_file words = slice_index_or words 1 []

-- this disk is one that the word opens, and it tells its bytes
abbrev pub IsFileDisk : (List ℕ → DiskState → Type 0) → List ℕ → DiskState → Type 0
IsFileDisk opens word disk = opens word disk × TellsFirmBytes disk

-- the word was opened, and no other
abbrev pub AddsFile : List (List ℕ) → List ℕ → List (List ℕ) → Type 0
AddsFile before word after = after ≡ before ++ word ∷ []

-- the one disk that FILE opens was opened, once, and is left so
pub record OpensStoreDisk (opens : List ℕ → DiskState → Type 0) (i : MakeInputs) (disk after : DiskState) : Type 0 where
  pub named : IsFileDisk opens (make_file i.words) disk
  pub opened : i.opened ≡ Some disk
  pub once : AddsFile i.disks_before (make_file i.words) i.disks_after
  pub left : i.left ≡ Some after

-- the bus file was read whole and has one node, and the disk was opened, of which this holds
abbrev pub OverDisk : (List ℕ → DiskState → Type 0) → MakeInputs → (NamedBus → DiskState → DiskState → Type 0) → Type 0
OverDisk opens i Has = AsksMake i.words × ((bus : NamedBus) × (disk : DiskState) × (after : DiskState)
    × ReadsNodeBus i.bus bus × OpensStoreDisk opens i disk after × Has bus disk after)

-- the table: the bus file is read before the disk is opened
pub data ComesOfMake (opens : List ℕ → DiskState → Type 0) (i : MakeInputs) : Row → Type 0 where
  no_form : asks_over_bus (codes "make") i.words ≡ false → IsUnread i.bus → OpensNoDisk i
      → ComesOfMake opens i (row_of 2 make_usage)
  no_node : (row : Row) → AsksMake i.words → LacksNodeBus i.bus row → OpensNoDisk i → ComesOfMake opens i row
  no_room : (bus : NamedBus) → AsksMake i.words → ReadsNodeBus i.bus bus → OpensNoDisk i
      → ComesOfMake opens i memory_row
  made : (bus : NamedBus) (disk after : DiskState) → AsksMake i.words → ReadsNodeBus i.bus bus
      → OpensStoreDisk opens i disk after → StoreMade bus.kind bus.version (node_config bus) disk after
      → ComesOfMake opens i (row_of 0 (made_text bus))
  unmade : (bus : NamedBus) (disk after : DiskState) (cause : MakeFault) (row : Row) → AsksMake i.words
      → ReadsNodeBus i.bus bus → IsConfig (node_config bus) → OpensStoreDisk opens i disk after
      → StoreUnmade bus.kind bus.version (node_config bus) disk after cause → IsMakeRow cause row
      → ComesOfMake opens i row
