-- What `slots make FILE BUS` promises
use Rattle.std.specs.Prelude.{◌≡◌, ◌≢◌, ◌⊎◌, ℕ, ◌<◌, ◌≤◌, false, Some, Err, List, [], length, codes}
use Rattle.cut_disk.specs.State.{DiskState, Told}
use Rattle.cut_disk.specs.Calls.{IsQuiet, Rose}
use Rattle.cell_store.specs.Store.{store_size, Stands}
use Rattle.cell_store.specs.declared.kinds.Kind.{Kind}
use Rattle.cell_store.specs.declared.kinds.Version.{Version}
use Rattle.any_cells.specs.declared.looking.Found.TheVariants as found
use Rattle.any_cells.specs.Either.{layout}
use Rattle.any_cells.specs.Looking.{IsFound}
use Rattle.program_edge.specs.Inputs.{IsUnread, Offers, SourceFailed, CountsFault, GivesTooMuch, CountsTooMuch}
use Rattle.program_edge.specs.Rows.{Row}
use Rattle.program_edge.specs.Endings.{Ending, EndsInRow, EndsIn, MayEndIn, PrintsWhole, PrintsFront}
use Rattle.program_edge.specs.Endings.{SinkFailed, CountsWriteFault}
use Rattle.freshness_routes.specs.Config.{Config}
use Rattle.bus_config.specs.declared.fault.ConfigFault.{ConfigFault}
use Rattle.bus_config.specs.BusFile.{bus_of}
use Rattle.bus_config.specs.Buses.{NamedBus}
use Rattle.bus_machine.specs.Node.{Kept}
use Rattle.secoc_node.specs.Cells.{CellsOf, IsKept}
use Rattle.bus_programs.specs.BusFiles.{OffersBus}
use Rattle.bus_world.specs.TakingUp.{cells_in}
use Rattle.bus_store_commands.specs.declared.making.MakeFault.{MakeFault}
use Rattle.bus_store_commands.specs.NodeBuses.{OffersNodeBus, LacksNodeBus}
use Rattle.bus_store_commands.specs.NodeStores.{StoreMade, StoreUnmade, BytesRefused, FailedToMake}
use Rattle.bus_store_commands.specs.NodeStores.{LeftAsItWas, IsUnused}
use Rattle.bus_store_commands.specs.BusWords.{asks_over_bus}
use Rattle.bus_store_commands.specs.MakeRows.{MakeInputs, AsksMake, OpensNoDisk, OverDisk, ComesOfMake, make_row}
use Rattle.bus_store_commands.specs.MakeRows.{make_usage, made_text, node_config}

-- the disk that was opened was quiet, or its count of faults didn't rise; and this holds of its size and its bytes,
-- which it tells
pub record OpenedWell (i : MakeInputs) (Has : ℕ → List ℕ → Type 0) : Type 0 where
  pub disk : DiskState
  pub is : i.opened ≡ Some disk
  pub did : IsQuiet disk ⊎ ((after : DiskState) → i.left ≡ Some after → ¬ Rose disk.faults after.faults)
  pub told : Told
  pub tells : disk.told ≡ Some told
  pub has : Has disk.size told.bytes

-- there is no room for the node's store, or the bytes are refused
abbrev pub NoStoreFits : NamedBus → ℕ → List ℕ → Type 0
NoStoreFits bus size x = (size < store_size (layout bus.kind bus.version) (cells_in (node_config bus)))
    ⊎ ((cause : MakeFault) × BytesRefused bus.kind bus.version (node_config bus) x cause)

-- the bytes are all zeros, or the node's store stands there whole
abbrev pub BlankOrWhole : Kind → Version → Config → List ℕ → Type 0
BlankOrWhole kind version config x = IsUnused kind version config x
    ⊎ ((kept : Kept) × IsFound kind version (cells_in config) x found.Standing × IsKept config kept
    × Stands (layout kind version) x (CellsOf config kept))

-- there is room for the node's store, and the bytes are so
abbrev pub StoreFits : NamedBus → ℕ → List ℕ → Type 0
StoreFits bus size x = (store_size (layout bus.kind bus.version) (cells_in (node_config bus)) ≤ size)
    × BlankOrWhole bus.kind bus.version (node_config bus) x

-- what is promised of these inputs that end so, in the order of the table of answers
pub record MakesUnitStore (opens : List ℕ → DiskState → Type 0) (i : MakeInputs) (e : Ending) : Type 0 where
  -- The program prints a row of the table and ends with its status, or at 6 a prefix of one.
  pub ends : EndsInRow (ComesOfMake opens i) e
  -- 0: the node's store stands there: made if the bytes were all zeros, and else as it was.
  pub made : e.status ≡ 0 → OverDisk opens i (λ bus disk after.
      StoreMade bus.kind bus.version (node_config bus) disk after × PrintsWhole e (made_text bus))
  -- 2: exactly if the words are malformed; nothing was read or opened.
  pub usage : e.status ≡ 2 → (asks_over_bus (codes "make") i.words ≡ false) × IsUnread i.bus × OpensNoDisk i
      × PrintsWhole e make_usage
  pub usage_only : asks_over_bus (codes "make") i.words ≡ false → EndsIn 2 e
  -- 3: exactly if the bus file has a fault, or its bus hasn't one node; no disk was opened.
  pub refused : e.status ≡ 3 → AsksMake i.words × OpensNoDisk i
      × ((row : Row) × LacksNodeBus i.bus row × (row.status ≡ 3) × PrintsWhole e row.text)
  pub config_refused_only : (config : List ℕ) (fault : ConfigFault) → AsksMake i.words → Offers i.bus config
      → bus_of config ≡ Err fault → MayEndIn 3 e
  pub nodes_refused_only : (bus : NamedBus) → AsksMake i.words → OffersBus i.bus bus → length bus.nodes ≢ 1
      → MayEndIn 3 e
  -- 5 and 8: exactly if the count of faults of the bus file's source rose, or one byte more came than an input may
  -- have.
  pub read_fault : e.status ≡ 5 → SourceFailed i.bus × OpensNoDisk i × PrintsWhole e (codes "read fault\n")
  pub read_fault_only : CountsFault i.bus → EndsIn 5 e
  pub too_long : e.status ≡ 8 → GivesTooMuch i.bus × OpensNoDisk i × PrintsWhole e (codes "input too long\n")
  pub too_long_only : CountsTooMuch i.bus → EndsIn 8 e
  -- 6: exactly if the sink's count of faults rose; a prefix was written of a row that comes.
  pub write_fault : e.status ≡ 6 → SinkFailed e × PrintsFront (ComesOfMake opens i) e
  pub write_fault_only : CountsWriteFault e → e.status ≡ 6
  -- 7: nothing was printed, and nothing was written to the disk.
  pub no_memory : e.status ≡ 7 → PrintsWhole e []
      × (OpensNoDisk i ⊎ OverDisk opens i (λ bus disk after. LeftAsItWas disk after))
  -- 9: the bytes aren't all zeros, and aren't the node's store, or the disk has no room; nothing was written.
  pub store_refused : e.status ≡ 9 → OverDisk opens i (λ bus disk after. (cause : MakeFault)
      × StoreUnmade bus.kind bus.version (node_config bus) disk after cause × LeftAsItWas disk after
      × ((make_row cause).status ≡ 9) × PrintsWhole e (make_row cause).text)
  pub store_refused_only : (bus : NamedBus) → AsksMake i.words → OffersNodeBus i.bus bus
      → OpenedWell i (NoStoreFits bus) → MayEndIn 9 e
  -- 10: exactly if the count of faults of the disk rose. Its bytes are as before; or they were zeros, and are as a
  -- failed format may leave them.
  pub disk_failed : e.status ≡ 10 → OverDisk opens i (λ bus disk after.
      FailedToMake bus.kind bus.version (node_config bus) disk after × PrintsWhole e (codes "store: DiskFailed\n"))
  pub disk_failed_only : (disk after : DiskState) → i.opened ≡ Some disk → i.left ≡ Some after
      → disk.faults < after.faults → EndsIn 10 e
  -- On a disk of zeros the store is made, and one that stands whole is found, if no port failed and there was memory.
  pub complete : (bus : NamedBus) → AsksMake i.words → OffersNodeBus i.bus bus → OpenedWell i (StoreFits bus)
      → ¬ SinkFailed e → (e.status ≡ 0) ⊎ (e.status ≡ 7)
