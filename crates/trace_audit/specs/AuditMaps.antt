-- The map of an audit: its lines, each with a CAN identifier of its own
use Rattle.std.specs.Prelude.{ℕ, if◌then◌else◌, List, Option, None, Some, option_and_then, is_some, Result}
use Rattle.secured_pdu.specs.declared.frame.TheConstants.{WIDEST_WINDOW}
use Rattle.text_lines.specs.declared.fault.Cause.{Cause}
use Rattle.text_lines.specs.Readings.{Fault, nth_word, with_count, read_all}
use Rattle.can_logs.specs.declared.map_lines.MapLine.{MapLine}
use Rattle.can_logs.specs.MapLines.{can_form, place_of_can, line_with, most_map_lines}

-- a CAN identifier that no line before has
unfoldable pub new_can_form : List MapLine → List ℕ → Option (List ℕ)
new_can_form before word =
    option_and_then (λ can. if is_some (place_of_can before can) then None else Some can) (can_form word)

-- a line of the map of an audit: it has the widest window, and hears every channel
unfoldable pub map_line_of : List MapLine → List (List ℕ) → Result MapLine Cause
map_line_of before words =
    with_count 5 words (line_with (new_can_form before (nth_word words 1)) (Some WIDEST_WINDOW) None words)

-- the lines of a map, or its first fault
unfoldable pub map_of : List ℕ → Result (List MapLine) Fault
map_of text = read_all map_line_of most_map_lines text
