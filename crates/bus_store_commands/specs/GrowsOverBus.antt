-- What `slots grow FILE BUS` promises
use Rattle.std.specs.Prelude.{◌≡◌, ◌≢◌, ◌⊎◌, ℕ, ◌<◌, ◌≤◌, false, true, List, [], ◌∷◌, ◌++◌, Option, Some, None}
use Rattle.std.specs.Prelude.{Result, Ok, Err, length, codes, slice_index_or}
use Rattle.cut_disk.specs.State.{DiskState}
use Rattle.cut_disk.specs.Calls.{Rose, AsBefore}
use Rattle.cell_store.specs.declared.kinds.Layout.{Layout}
use Rattle.cell_store.specs.declared.kinds.Version.TheVariants.{One}
use Rattle.cell_store.specs.Layout.{layout, twin_layout}
use Rattle.file_disk.specs.NamedDisks.{TellsFirmBytes}
use Rattle.text_lines.specs.Texts.{line}
use Rattle.program_edge.specs.Rows.{Row, row_of, memory_row}
use Rattle.program_edge.specs.Inputs.{Reading, IsUnread, Offers, SourceFailed, CountsFault, GivesTooMuch, CountsTooMuch}
use Rattle.program_edge.specs.Endings.{Ending, EndsInRow, EndsIn, MayEndIn, PrintsWhole, PrintsFront, SinkFailed}
use Rattle.program_edge.specs.Endings.{CountsWriteFault}
use Rattle.freshness_routes.specs.declared.routes.Route.{Route}
use Rattle.bus_config.specs.declared.fault.ConfigFault.{ConfigFault}
use Rattle.bus_config.specs.BusFile.{bus_of}
use Rattle.bus_config.specs.Buses.{NamedBus, IsNamedBus}
use Rattle.bus_programs.specs.BusFiles.{OffersBus}
use Rattle.bus_programs.specs.BusRoutes.{routes_of}
use Rattle.store_growing.specs.declared.faults.GrowFault.{GrowFault}
use Rattle.store_growing.specs.declared.faults.GrowFault.TheVariants.{DiskFailed}
use Rattle.store_growing.specs.RouteCells.{route_cell}
use Rattle.store_growing.specs.GrowingStores.{GrowsStore, NotGrown, CanBeGrown, CannotBeGrown}
use Rattle.bus_store_commands.specs.NodeBuses.{ReadsNodeBus, OffersNodeBus, LacksNodeBus}
use Rattle.bus_store_commands.specs.BusWords.{asks_over_bus}
use Rattle.bus_store_commands.specs.GrowRows.{GrowsOnDisk, IsGrowRow, grown_row}

-- what goes in: the arguments after `slots`, and what was known of the bus file's source before and after
pub record GrowInputs : Type 0 where
  pub words : List (List ℕ)
  pub bus : Reading

-- `grow FILE BUS`
abbrev pub AsksGrowth : List (List ℕ) → Type 0
AsksGrowth words = asks_over_bus (codes "grow") words ≡ true

abbrev pub grow_usage : List ℕ
grow_usage = line (codes "usage: station slots grow FILE BUS")

-- why no store is looked at: the arguments are malformed, or the bus file gives no bus of one node
pub data LacksGrowth (i : GrowInputs) : Row → Type 0 where
  asks_none : asks_over_bus (codes "grow") i.words ≡ false → IsUnread i.bus → LacksGrowth i (row_of 2 grow_usage)
  without_bus : (row : Row) → AsksGrowth i.words → LacksNodeBus i.bus row → LacksGrowth i row

abbrev pub TakesGrowth : GrowInputs → Result NamedBus Row → Type 0
TakesGrowth i (Ok bus) = AsksGrowth i.words × ReadsNodeBus i.bus bus
TakesGrowth i (Err row) = LacksGrowth i row

-- the disk that an argument opens, as it was then and as it was left; it tells its bytes
pub record OpensGrownDisk (opens : List ℕ → DiskState → Type 0) (before after : List (List ℕ)) (word : List ℕ)
    (was left : Option DiskState) : Type 0 where
  pub old : DiskState
  pub new : DiskState
  pub opened : opens word old
  pub tells : TellsFirmBytes old
  pub once : after ≡ before ++ word ∷ []
  pub was_is : was ≡ Some old
  pub left_is : left ≡ Some new

-- what growing the store on the disk that an argument names comes to: there was no memory for the disk, and none was
-- opened; or the disk was gone over
pub data ComesNamed (opens : List ℕ → DiskState → Type 0) (before after : List (List ℕ)) (word : List ℕ)
    (wanted : Layout) (routes : List Route) (was left : Option DiskState) : Row → Type 0 where
  not_opened : after ≡ before → was ≡ None → left ≡ None
      → ComesNamed opens before after word wanted routes was left memory_row
  over_disk : (disk : OpensGrownDisk opens before after word was left) (row : Row)
      → GrowsOnDisk wanted routes disk.old disk.new row → ComesNamed opens before after word wanted routes was left row

-- the kind and the version of the store that a bus wants
abbrev pub layout_of_bus : NamedBus → Layout
layout_of_bus bus = layout bus.kind bus.version

-- the arguments' file
abbrev pub file_of : GrowInputs → List ℕ
file_of i = slice_index_or i.words 1 []

-- the table: the bus file is read before the disk of FILE is opened
pub data ComesOfGrowth (opens : List ℕ → DiskState → Type 0) (before after : List (List ℕ)) (i : GrowInputs)
    (was left : Option DiskState) : Row → Type 0 where
  lacks_bus : (row : Row) → LacksGrowth i row → after ≡ before → was ≡ None → left ≡ None
      → ComesOfGrowth opens before after i was left row
  with_bus : (bus : NamedBus) (row : Row) → IsNamedBus bus → AsksGrowth i.words → ReadsNodeBus i.bus bus
      → ComesNamed opens before after (file_of i) (layout_of_bus bus) (routes_of bus) was left row
      → ComesOfGrowth opens before after i was left row

module _ (opens : List ℕ → DiskState → Type 0) (before after : List (List ℕ)) (i : GrowInputs)
    (left : Option DiskState) where
  -- the bus file was read whole, and the disk of FILE was opened once, as it was then
  abbrev pub OverStore : Option DiskState → (NamedBus → DiskState → DiskState → Type 0) → Type 0
  OverStore was Has = (bus : NamedBus) × IsNamedBus bus × AsksGrowth i.words × ReadsNodeBus i.bus bus
      × (disk : OpensGrownDisk opens before after (file_of i) was left) × Has bus disk.old disk.new

  -- the disk, if one was opened, is such a one, as it was then and as it was left
  abbrev pub OfStore : Option DiskState → (DiskState → DiskState → Type 0) → Type 0
  OfStore was Has = (old new : DiskState) → was ≡ Some old → left ≡ Some new → Has old new

  -- what is promised of a run that ends so, in the order of the table of answers
  pub record GrowsOverBus (e : Ending) : Type 0 where
    -- The disk of FILE as it was opened, if it was.
    pub was : Option DiskState
    -- The program prints a row of the table and ends with its status, or at 6 a prefix of one.
    pub ends : EndsInRow (ComesOfGrowth opens before after i was left) e
    -- 0: the bus wants a twin store of version 1, this one has a cell for each route, and no call of the disk failed.
    pub grown : e.status ≡ 0 → OverStore was (λ bus old new. (layout_of_bus bus ≡ twin_layout One)
        × GrowsStore (routes_of bus) old new × (new.faults ≡ old.faults)
        × PrintsWhole e (grown_row (route_cell (length (routes_of bus)))).text)
    -- 2: exactly if the arguments are malformed; nothing was read, and no disk was opened.
    pub usage : e.status ≡ 2 → (asks_over_bus (codes "grow") i.words ≡ false) × IsUnread i.bus × (after ≡ before)
        × PrintsWhole e grow_usage
    pub usage_only : asks_over_bus (codes "grow") i.words ≡ false → EndsIn 2 e
    -- 3: exactly if the bus file has a fault, or its bus hasn't one node; no disk was opened.
    pub refused : e.status ≡ 3 → AsksGrowth i.words × (after ≡ before)
        × ((row : Row) × LacksNodeBus i.bus row × (row.status ≡ 3) × PrintsWhole e row.text)
    pub config_refused_only : (config : List ℕ) (fault : ConfigFault) → AsksGrowth i.words → Offers i.bus config
        → bus_of config ≡ Err fault → MayEndIn 3 e
    pub nodes_refused_only : (bus : NamedBus) → AsksGrowth i.words → OffersBus i.bus bus → length bus.nodes ≢ 1
        → MayEndIn 3 e
    -- 5: exactly if the count of faults of the bus file's source rose.
    pub read_fault : e.status ≡ 5 → SourceFailed i.bus × (after ≡ before) × PrintsWhole e (codes "read fault\n")
    pub read_fault_only : CountsFault i.bus → EndsIn 5 e
    -- 6: exactly if the sink's count of faults rose; a prefix was written of a row that comes.
    pub write_fault : e.status ≡ 6 → SinkFailed e × PrintsFront (ComesOfGrowth opens before after i was left) e
    pub write_fault_only : CountsWriteFault e → e.status ≡ 6
    -- 7: nothing was printed, and nothing was written to a disk.
    pub no_memory : e.status ≡ 7
        → PrintsWhole e [] × ((left ≡ None) ⊎ OverStore was (λ bus old new. new.told ≡ old.told))
    -- 8: exactly if one byte more than an input may have came from the bus file's source.
    pub too_long : e.status ≡ 8 → GivesTooMuch i.bus × (after ≡ before) × PrintsWhole e (codes "input too long\n")
    pub too_long_only : CountsTooMuch i.bus → EndsIn 8 e
    -- 9: exactly if there is a cause why the store can't be grown, and no call of the disk failed. The disk is as it
    -- was, and the first cause is printed.
    pub no_store : e.status ≡ 9 → OverStore was (λ bus old new. AsBefore 2 old new
        × ((fault : GrowFault) × (row : Row) × CannotBeGrown (layout_of_bus bus) (routes_of bus) old fault
        × IsGrowRow fault row × (row.status ≡ 9) × PrintsWhole e row.text))
    pub no_store_only : (bus : NamedBus) (fault : GrowFault) → AsksGrowth i.words → OffersNodeBus i.bus bus
        → OfStore was (λ old new. CannotBeGrown (layout_of_bus bus) (routes_of bus) old fault
        × (¬ Rose old.faults new.faults))
        → MayEndIn 9 e
    -- 10: exactly if the disk's count of faults rose; whatever the power leaves has the cells that the store had, or
    -- more.
    pub disk_failed : e.status ≡ 10 → OverStore was (λ bus old new.
        NotGrown (layout_of_bus bus) (routes_of bus) old new DiskFailed × PrintsWhole e (codes "store: DiskFailed\n"))
    pub disk_failed_only : (old new : DiskState) → was ≡ Some old → left ≡ Some new → old.faults < new.faults
        → EndsIn 10 e
    -- A store that can be grown is, if no port failed and there was memory.
    pub complete : (bus : NamedBus) → AsksGrowth i.words → OffersNodeBus i.bus bus
        → OfStore was (λ old new. CanBeGrown (layout_of_bus bus) (routes_of bus) old
        × (¬ Rose old.faults new.faults)) → ¬ SinkFailed e
        → (e.status ≡ 0) ⊎ (e.status ≡ 7)
    -- The statuses are 0, 2, 3 and 5 to 10.
    pub statuses : (e.status ≡ 0) ⊎ (e.status ≡ 2) ⊎ (e.status ≡ 3) ⊎ ((5 ≤ e.status) × (e.status ≤ 10))
