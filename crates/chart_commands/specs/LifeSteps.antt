-- How a lifeline that is being drawn goes on by a row (own)
use Rattle.std.specs.Prelude.{◌≡◌, ℕ, Bool, List, ◌++◌, option_map}
use Rattle.std.specs.List.{cons_option}
use Rattle.bus_machine.specs.declared.events.Event.{Event}
use Rattle.bus_machine.specs.declared.lines.Line.{Line}
use Rattle.chart_commands.specs.declared.lifelines.Life.{Life}
use Rattle.chart_commands.specs.declared.lifelines.LifeTurn.{LifeTurn}
use Rattle.chart_commands.specs.Lifelines.{life_turn, stretches}
use Rattle.chart_commands.specs.ChartTexts.{life_strokes}

-- whatever turns come after this row, the strokes so far and those of the life that is left are the same as before it
abbrev pub GoesOnBy : (node : ℕ) (down : Bool) (row : ℕ) → Event → Line → Life → List ℕ → Life → List ℕ → Type 0
GoesOnBy node down row e l before strokes after more =
    (turns : List (ℕ × LifeTurn)) (end : ℕ)
    → more ++ life_strokes node down (stretches after.down after.from turns end)
    ≡ strokes ++ life_strokes node down
    (stretches before.down before.from (cons_option (option_map (λ turn. (row, turn)) (life_turn node e l)) turns) end)
