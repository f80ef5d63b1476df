-- The printed texts of faults, each line with its line feed.
use Rattle.std.specs.Prelude.{ℕ, List, [], ◌∷◌, ◌++◌, codes}
use Rattle.std.specs.Fmt.{decimal}
use Rattle.text_lines.specs.declared.fault.Cause.{Cause}
use Rattle.text_lines.specs.declared.fault.Cause.TheVariants.{Event, Count, Field, TooMany}
use Rattle.text_lines.specs.Readings.{Fault}

-- a text and the line feed after it, which is 10
abbrev pub line : List ℕ → List ℕ
line text = text ++ 10 ∷ []

abbrev pub cause_text : Cause → List ℕ
cause_text Event = codes "unknown event"
cause_text Count = codes "wrong number of words"
cause_text (Field n) = codes "word " ++ decimal n
cause_text TooMany = codes "too many events"

-- the line that is printed for a fault
abbrev pub fault_text_of : Fault → List ℕ
fault_text_of fault = codes "script: line " ++ (decimal fault.line ++ (codes ": " ++ line (cause_text fault.cause)))
