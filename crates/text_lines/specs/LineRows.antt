-- The rows of lines that are refused
use Rattle.std.specs.Prelude.{◌≡◌, ◌⊎◌, List, Result, Err}
use Rattle.text_lines.specs.declared.fault.ScriptFault.{ScriptFault}
use Rattle.text_lines.specs.declared.fault.ScriptFault.TheVariants.{At, Memory}
use Rattle.text_lines.specs.Readings.{Fault}
use Rattle.text_lines.specs.Texts.{fault_text_of}
use Rattle.program_edge.specs.Rows.{Row, row_of, memory_row}

-- the row of a fault: 4, and the text that names the line and the cause
abbrev pub line_row : Fault → Row
line_row fault = row_of 4 (fault_text_of fault)

-- that row, or out of memory
abbrev pub IsRowOf : ScriptFault → Row → Type 0
IsRowOf (At line cause) row = (row ≡ line_row (record { line = line; cause = cause })) ⊎ (row ≡ memory_row)
IsRowOf Memory row = row ≡ memory_row

-- lines without a meaning: the row of their first fault, or out of memory
abbrev pub NoLines : {A : Type 0} → Result (List A) Fault → Row → Type 0
NoLines meaning row = ((fault : Fault) × (meaning ≡ Err fault) × (row ≡ line_row fault)) ⊎ (row ≡ memory_row)
