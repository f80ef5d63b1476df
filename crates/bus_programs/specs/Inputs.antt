-- What goes into a program over a bus
use Rattle.std.specs.Prelude.{ℕ, List}
use Rattle.bus_port.specs.Source.{SourceState}
use Rattle.program_edge.specs.Inputs.{Reading}

-- the arguments, and what was known of the sources of the bus file and of the lines, before and after
pub record BusInputs : Type 0 where
  pub words : List (List ℕ)
  pub config : Reading
  pub script : Reading

-- these arguments, and what was known of the bus file's source before and after, and of the lines'
abbrev pub inputs_of : List (List ℕ) → SourceState → SourceState → SourceState → SourceState → BusInputs
inputs_of words config_before config_after script_before script_after = record {
  words = words;
  config = record { before = config_before; after = config_after };
  script = record { before = script_before; after = script_after };
}
