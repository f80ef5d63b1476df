-- Whole inputs: how many bytes one has, why there is none, and what is printed then.
use Rattle.std.specs.Prelude.{◌≡◌, ℕ, List, [], codes}
use Rattle.bus_port.specs.Fault.{Rose}
use Rattle.bus_port.specs.Source.{SourceState}
use Rattle.bus_port.specs.Whole.{CameWithin, CameBeyond}
use Rattle.program_edge.specs.declared.input.InputFault.{InputFault}
use Rattle.program_edge.specs.declared.input.InputFault.TheVariants.{ReadFault, TooLong, Memory}

-- the most bytes that an input has
abbrev pub input_limit : ℕ
input_limit = 1048576

-- why there is no input, by what was known of the source before and after: a fault was counted only if it is the cause
abbrev pub NoInput : SourceState → SourceState → InputFault → Type 0
NoInput before after ReadFault = Rose before.faults after.faults × CameWithin before after input_limit
NoInput before after TooLong = (after.faults ≡ before.faults) × CameBeyond before after input_limit
NoInput before after Memory = (after.faults ≡ before.faults) × CameWithin before after input_limit

-- the status of a program that ends by it
abbrev pub input_fault_status : InputFault → ℕ
input_fault_status ReadFault = 5
input_fault_status TooLong = 8
input_fault_status Memory = 7

-- what is printed then
abbrev pub input_fault_text : InputFault → List ℕ
input_fault_text ReadFault = codes "read fault\n"
input_fault_text TooLong = codes "input too long\n"
input_fault_text Memory = []
