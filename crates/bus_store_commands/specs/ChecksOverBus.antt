-- What `slots check FILE BUS` promises
use Rattle.std.specs.Prelude.{◌≡◌, ◌≢◌, ◌⊎◌, ℕ, false, List, [], Err, length, codes}
use Rattle.program_edge.specs.Inputs.{IsUnread, Offers, SourceFailed, CountsFault, GivesTooMuch, CountsTooMuch}
use Rattle.program_edge.specs.Rows.{Row}
use Rattle.program_edge.specs.Endings.{Ending, EndsInRow, EndsIn, MayEndIn, PrintsWhole, PrintsFront}
use Rattle.program_edge.specs.Endings.{SinkFailed, CountsWriteFault}
use Rattle.bus_config.specs.declared.fault.ConfigFault.{ConfigFault}
use Rattle.bus_config.specs.BusFile.{bus_of}
use Rattle.bus_config.specs.Buses.{NamedBus}
use Rattle.bus_programs.specs.BusFiles.{OffersBus}
use Rattle.cell_store.specs.Layout.{layout}
use Rattle.any_cells.specs.declared.finding.CountingStore.{CountingStore}
use Rattle.any_cells.specs.declared.looking.Found.TheVariants.{Standing}
use Rattle.any_cells.specs.Looking.{IsFound}
use Rattle.key_commands.specs.Opening.{layout_of}
use Rattle.slot_commands.specs.Stores.{HasStoreToCheck, NoStoreIn}
use Rattle.bus_store_commands.specs.NodeBuses.{OffersNodeBus, LacksNodeBus}
use Rattle.bus_store_commands.specs.BusWords.{asks_over_bus}
use Rattle.bus_store_commands.specs.CheckRows.{BusCheckInputs, AsksBusCheck, OverStoreAndBus, wanted_store}
use Rattle.bus_store_commands.specs.CheckRows.{ChecksNodeStore, DoesBusCheck}
use Rattle.bus_store_commands.specs.CheckRows.{ComesOfBusCheck, bus_check_usage}

-- what is promised of these inputs that ends so, in the order of the table of answers
pub record ChecksOverBus (i : BusCheckInputs) (e : Ending) : Type 0 where
  -- The program prints a row of the table and ends with its status, or at 6 a prefix of one.
  pub ends : EndsInRow (ComesOfBusCheck i) e
  -- 0 exactly if kind and version are the bus's, nothing is wrong with a cell, and each route has one; 1 exactly if
  -- something is wrong, and each is printed.
  pub good : e.status ≡ 0 → OverStoreAndBus i (λ bus x.
      (text : List ℕ) × ChecksNodeStore bus x [] text × PrintsWhole e text)
  pub found : e.status ≡ 1 → OverStoreAndBus i (λ bus x.
      (findings : List (List (List ℕ))) × (text : List ℕ) × (findings ≢ [])
      × ChecksNodeStore bus x findings text × PrintsWhole e text)
  pub found_only : (bus : NamedBus) (x text : List ℕ) (findings : List (List (List ℕ))) → AsksBusCheck i.words
      → OffersNodeBus i.bus bus → Offers i.file x → ChecksNodeStore bus x findings text → findings ≢ []
      → MayEndIn 1 e
  -- At 0 the node's start would find its store standing. One of another kind or version than the bus's is always found.
  pub standing : e.status ≡ 0 → OverStoreAndBus i (λ bus x.
      IsFound bus.kind bus.version (wanted_store bus).cells x Standing)
  pub kind_found_only : (bus : NamedBus) (x : List ℕ) (found : CountingStore) → AsksBusCheck i.words
      → OffersNodeBus i.bus bus → Offers i.file x → HasStoreToCheck x found
      → ¬ (layout_of found ≡ layout bus.kind bus.version) → MayEndIn 1 e
  -- 2: exactly if the words are malformed; nothing was read.
  pub usage : e.status ≡ 2 → (asks_over_bus (codes "check") i.words ≡ false) × IsUnread i.bus × IsUnread i.file
      × PrintsWhole e bus_check_usage
  pub usage_only : asks_over_bus (codes "check") i.words ≡ false → EndsIn 2 e
  -- 3: exactly if the bus file has a fault, or its bus hasn't one node; the store wasn't read.
  pub refused : e.status ≡ 3 → AsksBusCheck i.words × IsUnread i.file
      × ((row : Row) × LacksNodeBus i.bus row × (row.status ≡ 3) × PrintsWhole e row.text)
  pub config_refused_only : (config : List ℕ) (fault : ConfigFault) → AsksBusCheck i.words → Offers i.bus config
      → bus_of config ≡ Err fault → MayEndIn 3 e
  pub nodes_refused_only : (bus : NamedBus) → AsksBusCheck i.words → OffersBus i.bus bus → length bus.nodes ≢ 1
      → MayEndIn 3 e
  -- 5: exactly if the count of faults of a source rose.
  pub read_fault : e.status ≡ 5 → (SourceFailed i.bus ⊎ SourceFailed i.file) × PrintsWhole e (codes "read fault\n")
  pub read_fault_only : CountsFault i.bus ⊎ CountsFault i.file → EndsIn 5 e
  -- 6: exactly if the sink's count of faults rose; a prefix was written of a row that comes.
  pub write_fault : e.status ≡ 6 → SinkFailed e × PrintsFront (ComesOfBusCheck i) e
  pub write_fault_only : CountsWriteFault e → e.status ≡ 6
  -- 7: nothing was written.
  pub no_memory : e.status ≡ 7 → PrintsWhole e []
  -- 8: exactly if one byte more than an input may have came from a source.
  pub too_long : e.status ≡ 8 → (GivesTooMuch i.bus ⊎ GivesTooMuch i.file) × PrintsWhole e (codes "input too long\n")
  pub too_long_only : CountsTooMuch i.bus ⊎ CountsTooMuch i.file → EndsIn 8 e
  -- 9: exactly if the bytes give no store that can be checked; the first cause is printed.
  pub no_store : e.status ≡ 9 → OverStoreAndBus i (λ bus x.
      (row : Row) × NoStoreIn x row × PrintsWhole e row.text)
  pub no_store_only : (bus : NamedBus) (x : List ℕ) (row : Row) → AsksBusCheck i.words → OffersNodeBus i.bus bus
      → Offers i.file x → NoStoreIn x row → MayEndIn 9 e
  -- What is valid is done, if no port failed and there was memory.
  pub complete : (bus : NamedBus) (x : List ℕ) (row : Row) → AsksBusCheck i.words → OffersNodeBus i.bus bus
      → Offers i.file x → DoesBusCheck bus x row → ¬ SinkFailed e
      → (e.status ≡ row.status) ⊎ (e.status ≡ 7)
