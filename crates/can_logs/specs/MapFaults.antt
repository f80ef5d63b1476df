-- The rows of a map of `watch` that isn't taken: its source, or its first line that is none
use Rattle.std.specs.Prelude.{◌≡◌, ◌⊎◌, ℕ, ◌==◌, if◌then◌else◌, List, [], ◌++◌, codes, Result, Err}
use Rattle.std.specs.Fmt.{decimal}
use Rattle.text_lines.specs.declared.fault.Cause.{Cause}
use Rattle.text_lines.specs.declared.fault.Cause.TheVariants.{Event, Count, Field, TooMany}
use Rattle.text_lines.specs.declared.fault.ScriptFault.{ScriptFault}
use Rattle.text_lines.specs.declared.fault.ScriptFault.TheVariants.{At, Memory as NoMemory}
use Rattle.text_lines.specs.Readings.{Fault}
use Rattle.text_lines.specs.Texts.{line}
use Rattle.program_edge.specs.Input.{input_fault_status}
use Rattle.program_edge.specs.declared.input.InputFault.{InputFault}
use Rattle.program_edge.specs.declared.input.InputFault.TheVariants.{ReadFault, TooLong, Memory}
use Rattle.program_edge.specs.Rows.{Row, row_of, memory_row}

-- the form that the word of a line with this number hasn't
abbrev pub map_word_form : ℕ → List ℕ
map_word_form number =
    if number == 1 then codes "a CAN identifier, 3 or 8 hexadecimal digits, whose frames no earlier line hears"
    else if number == 2 then codes "a Data ID of 4 hexadecimal digits"
    else if number == 3 then codes "a key of 32 hexadecimal digits"
    else if number == 4 then codes "a freshness of 16 hexadecimal digits"
    else if number == 5 then codes "a length of 1 to 60"
    else if number == 6
    then codes "a window of 1 to 256, every= or silent= and seconds, or name= and 1 to 32 letters, digits, -, . or _"
    else codes "optional, every= or silent= and seconds, or name= and 1 to 32 letters, digits, -, . or _, each once"

abbrev pub map_cause_text : Cause → List ℕ
map_cause_text Event = codes "no line of a map"
map_cause_text Count =
    codes "wrong number of words: "
    ++ codes "CANID ID KEY FRESH LEN [WINDOW [CHANNEL]] [optional] [every=SECONDS] [silent=SECONDS] [name=NAME]"
map_cause_text (Field number) = codes "word " ++ (decimal number ++ (codes ": " ++ map_word_form number))
map_cause_text TooMany = codes "more than 256 lines"

-- the line that is printed for the first fault of a map
abbrev pub map_fault_text : Fault → List ℕ
map_fault_text fault = codes "map: line " ++ (decimal fault.line ++ (codes ": " ++ line (map_cause_text fault.cause)))

abbrev pub map_line_row : Fault → Row
map_line_row fault = row_of 4 (map_fault_text fault)

-- that row, or out of memory
abbrev pub IsMapRowOf : ScriptFault → Row → Type 0
IsMapRowOf (At line cause) row =
    (row ≡ map_line_row (record { line = line; cause = cause })) ⊎ (row ≡ memory_row)
IsMapRowOf NoMemory row = row ≡ memory_row

-- a map without a meaning: the row of its first fault, or out of memory
abbrev pub NoMapLines : {A : Type 0} → Result (List A) Fault → Row → Type 0
NoMapLines meaning row =
    ((fault : Fault) × (meaning ≡ Err fault) × (row ≡ map_line_row fault)) ⊎ (row ≡ memory_row)

-- what is printed if the source of the map gives none
abbrev pub map_input_text : InputFault → List ℕ
map_input_text ReadFault = codes "map: read fault\n"
map_input_text TooLong = codes "map: input too long\n"
map_input_text Memory = []

abbrev pub map_input_row : InputFault → Row
map_input_row fault = row_of (input_fault_status fault) (map_input_text fault)
