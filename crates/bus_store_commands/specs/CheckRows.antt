-- The table of answers of `slots check FILE BUS`: its rows, and when each comes
use Rattle.std.specs.Prelude.{◌≡◌, ◌≢◌, ◌+◌, ℕ, true, false, List, [], length, Some, Result, Ok, Err, Vec, codes}
use Rattle.std.specs.declared.alloc.Global.{Global}
use Rattle.text_lines.specs.Texts.{line}
use Rattle.program_edge.specs.declared.input.InputFault.{InputFault}
use Rattle.program_edge.specs.Rows.{Row, row_of, input_row}
use Rattle.program_edge.specs.Inputs.{Reading, IsUnread, ReadsWhole, Lacks}
use Rattle.bus_config.specs.Buses.{NamedBus}
use Rattle.bus_programs.specs.BusRoutes.{routes_of}
use Rattle.any_cells.specs.declared.finding.CountingStore.{CountingStore}
use Rattle.any_cells.specs.Counting.{counting_store}
use Rattle.slot_commands.specs.Cells.{slot_count}
use Rattle.slot_commands.specs.Stores.{NoStoreIn, ChecksStore}
use Rattle.bus_store_commands.specs.NodeBuses.{ReadsNodeBus, LacksNodeBus}
use Rattle.bus_store_commands.specs.BusWords.{asks_over_bus}

-- what goes in: the words after `slots`, and what was known of both sources before and after
pub record BusCheckInputs : Type 0 where
  pub words : List (List ℕ)
  pub file : Reading
  pub bus : Reading

-- `check FILE BUS`
abbrev pub AsksBusCheck : List (List ℕ) → Type 0
AsksBusCheck words = asks_over_bus (codes "check") words ≡ true

abbrev pub bus_check_usage : List ℕ
bus_check_usage = line (codes "usage: station slots check FILE BUS")

-- both were read whole: a bus of one node, and these bytes
abbrev pub OverStoreAndBus : BusCheckInputs → (NamedBus → List ℕ → Type 0) → Type 0
OverStoreAndBus i Has = (bus : NamedBus) × (x : List ℕ) × ReadsNodeBus i.bus bus × ReadsWhole i.file x × Has bus x

-- the store that the one node of a bus wants: the kind and the version are the bus's, and it has a cell for each slot
-- and for each route
abbrev pub wanted_store : NamedBus → CountingStore
wanted_store bus = counting_store bus.kind bus.version (slot_count + length (routes_of bus))

-- what is found of these bytes as the store of the one node of a bus
abbrev pub ChecksNodeStore : NamedBus → List ℕ → List (List (List ℕ)) → List ℕ → Type 0
ChecksNodeStore bus x findings text = ChecksStore (Some (wanted_store bus)) (Some (routes_of bus)) x findings text

-- what a check of these bytes over the bus of the unit's node comes to
pub data DoesBusCheck (bus : NamedBus) (x : List ℕ) : Row → Type 0 where
  found_nothing : (text : List ℕ) → ChecksNodeStore bus x [] text → DoesBusCheck bus x (row_of 0 text)
  found : (findings : List (List (List ℕ))) (text : List ℕ) → findings ≢ [] → ChecksNodeStore bus x findings text
      → DoesBusCheck bus x (row_of 1 text)
  not_checked : (row : Row) → NoStoreIn x row → DoesBusCheck bus x row

-- the table: the bus file is read before the store's
pub data ComesOfBusCheck (i : BusCheckInputs) : Row → Type 0 where
  no_form : asks_over_bus (codes "check") i.words ≡ false → IsUnread i.bus → IsUnread i.file
      → ComesOfBusCheck i (row_of 2 bus_check_usage)
  no_node : (row : Row) → AsksBusCheck i.words → LacksNodeBus i.bus row → IsUnread i.file → ComesOfBusCheck i row
  no_file : (bus : NamedBus) (fault : InputFault) → AsksBusCheck i.words → ReadsNodeBus i.bus bus
      → Lacks i.file fault → ComesOfBusCheck i (input_row fault)
  done : (bus : NamedBus) (x : List ℕ) (row : Row) → AsksBusCheck i.words → ReadsNodeBus i.bus bus
      → ReadsWhole i.file x → DoesBusCheck bus x row → ComesOfBusCheck i row

-- how the first phase ends: in a text and its status, or in a refusal; each is a row that comes
abbrev pub AnswersBusCheck : BusCheckInputs → Result (Vec ℕ Global × ℕ) Row → Type 0
AnswersBusCheck i (Ok (text, status)) = ComesOfBusCheck i (row_of status text.items)
AnswersBusCheck i (Err row) = ComesOfBusCheck i row
