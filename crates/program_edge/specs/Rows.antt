-- The rows of a table of answers
use Rattle.std.specs.Prelude.{ℕ, List, [], string_bytes}
use Rattle.program_edge.specs.Input.{input_fault_status, input_fault_text}
use Rattle.program_edge.specs.declared.input.InputFault.{InputFault}
use Rattle.program_edge.specs.declared.refusal.Text.{Text}
use Rattle.program_edge.specs.declared.refusal.Text.TheVariants.{Fixed, Made, Short}

-- a row: the status that a program ends with, and the text that it prints
pub record Row : Type 0 where
  pub status : ℕ
  pub text : List ℕ

abbrev pub row_of : ℕ → List ℕ → Row
row_of status text = record { status = status; text = text }

-- out of memory: nothing is printed
abbrev pub memory_row : Row
memory_row = row_of 7 []

-- no input: 5 if the source failed, 8 if too much came, and 7 if memory is out
abbrev pub input_row : InputFault → Row
input_row fault = row_of (input_fault_status fault) (input_fault_text fault)

-- the bytes of a text that is fixed, or was made, with memory or without
abbrev pub shown : Text → List ℕ
shown (Fixed text) = text.now
shown (Made text) = string_bytes text
shown (Short text) = text.bytes
