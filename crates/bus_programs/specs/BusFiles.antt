-- The bus file of a program: the bus that it has, or why it has none
use Rattle.std.specs.Prelude.{◌≡◌, ◌⊎◌, ℕ, List, Some, Result, Ok, Err}
use Rattle.program_edge.specs.declared.input.InputFault.{InputFault}
use Rattle.program_edge.specs.Rows.{Row, row_of, input_row, memory_row}
use Rattle.program_edge.specs.Inputs.{Reading, ReadsWhole, Lacks, Offers}
use Rattle.bus_config.specs.declared.fault.ConfigFault.{ConfigFault}
use Rattle.bus_config.specs.BusFile.{bus_of}
use Rattle.bus_config.specs.FaultTexts.{config_fault_text}
use Rattle.bus_config.specs.Buses.{NamedBus}

-- the bus file was read whole, and has this bus
abbrev pub ReadsBus : Reading → NamedBus → Type 0
ReadsBus config bus = (file : List ℕ) × ReadsWhole config file × (bus_of file ≡ Ok bus)

-- the bus file was read whole, and this is its first fault
abbrev pub IsConfigFault : Reading → ConfigFault → Type 0
IsConfigFault config fault = (file : List ℕ) × ReadsWhole config file × (bus_of file ≡ Err fault)

-- the source of the bus file tells one with this bus, and didn't fail
abbrev pub OffersBus : Reading → NamedBus → Type 0
OffersBus config bus = (file : List ℕ) × Offers config file × (bus_of file ≡ Ok bus)

-- the row of a fault of a bus file, or out of memory for its text
abbrev pub IsConfigRow : ConfigFault → Row → Type 0
IsConfigRow fault row =
    ((text : List ℕ) × (config_fault_text fault ≡ Some text) × (row ≡ row_of 3 text)) ⊎ (row ≡ memory_row)

-- the bus is the one that a bus file has, or the file is refused
abbrev pub HasBus : List ℕ → Result NamedBus Row → Type 0
HasBus file (Ok bus) = bus_of file ≡ Ok bus
HasBus file (Err row) = ((fault : ConfigFault) × (bus_of file ≡ Err fault) × IsConfigRow fault row) ⊎ (row ≡ memory_row)

-- why the source of a bus file gives none
pub data LacksBus (config : Reading) : Row → Type 0 where
  no_file : (fault : InputFault) → Lacks config fault → LacksBus config (input_row fault)
  file_refused : (fault : ConfigFault) (text : List ℕ) → IsConfigFault config fault
      → config_fault_text fault ≡ Some text
      → LacksBus config (row_of 3 text)

-- the bus of a bus file that was read whole, or why there is none
abbrev pub FindsBus : Reading → Result NamedBus Row → Type 0
FindsBus config (Ok bus) = ReadsBus config bus
FindsBus config (Err row) = LacksBus config row
