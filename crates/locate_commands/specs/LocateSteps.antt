-- What the two phases of `explain --locate` say to one another
use Rattle.std.specs.Prelude.{◌≡◌, ◌⊎◌, ◌≤◌, length, Result, Ok, Err}
use Rattle.program_edge.specs.Input.{input_limit}
use Rattle.program_edge.specs.Rows.{Row, memory_row}
use Rattle.program_edge.specs.Endings.{EndsInRow}
use Rattle.can_logs.specs.LogRuns.{LogInputs, IsUnwritten, WatchEnding, on_output, on_errors}
use Rattle.locate_commands.specs.declared.run.Locating.{Locating}
use Rattle.locate_commands.specs.Locating.{FoundIn}
use Rattle.locate_commands.specs.LocateRows.{OverLocate, located_row, LocateOnErrors}

-- by what it finds
abbrev pub found_in : Locating → FoundIn
found_in l = record { mapping = l.map; log = l.log.items; candidates = l.candidates }

-- how the first phase ends: in what was read, or in a row on standard error
abbrev pub PreparesLocate : LogInputs → Result Locating Row → Type 0
PreparesLocate i (Ok l) =
    (length l.text.items ≤ input_limit) × (length l.log.items ≤ input_limit)
    × OverLocate i (λ text f. (text ≡ l.text.items) × (f ≡ found_in l))
PreparesLocate i (Err row) = LocateOnErrors i row

-- how the second does: the map is printed, or there is no memory for it
abbrev pub DoesLocate : Locating → WatchEnding → Type 0
DoesLocate l e =
    (EndsInRow (λ row. row ≡ located_row l.text.items (found_in l)) (on_output e) × IsUnwritten e.errors)
    ⊎ (EndsInRow (λ row. row ≡ memory_row) (on_errors e) × IsUnwritten e.output)
