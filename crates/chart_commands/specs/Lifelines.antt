-- The lifelines of a chart: where a node is drawn up, and where it is drawn down (own)
use Rattle.std.specs.Prelude.{ℕ, ◌+◌, ◌-◌, ◌==◌, Bool, true, false, cond, Option, None, Some, List, [], ◌∷◌, length}
use Rattle.std.specs.Prelude.{option_map}
use Rattle.std.specs.List.{cons_option}
use Rattle.bus_machine.specs.declared.events.Event.{Event}
use Rattle.bus_machine.specs.declared.lines.Line.{Line}
use Rattle.bus_machine.specs.declared.lines.Line.TheVariants.{Up, Refused}
use Rattle.bus_machine.specs.declared.lines.Refusal.{Refusal}
use Rattle.bus_machine.specs.declared.lines.Refusal.TheVariants.{MemoryFailure, NotFormatted, Damaged, BadSlot}
use Rattle.bus_machine.specs.declared.lines.Refusal.TheVariants.{BadBound}
use Rattle.bus_machine.specs.Bus.{node_of}
use Rattle.chart_commands.specs.declared.lifelines.LifeTurn.{LifeTurn}
use Rattle.chart_commands.specs.declared.lifelines.LifeTurn.TheVariants.{Falls, Rises}
use Rattle.chart_commands.specs.declared.lifelines.Stretch.{Stretch}
use Rattle.chart_commands.specs.Places.{row_axis, lifeline_top, lifeline_bottom}

-- ---- the turns of a life

-- a node goes down if its disk failed, and if what stands on the disk isn't its store
abbrev pub refusal_turn : Refusal → Option LifeTurn
refusal_turn MemoryFailure = Some Falls
refusal_turn NotFormatted = Some Falls
refusal_turn (Damaged place) = Some Falls
refusal_turn (BadSlot slot) = Some Falls
refusal_turn (BadBound cell) = Some Falls
refusal_turn _ = None

abbrev pub line_turn : Line → Option LifeTurn
line_turn Up = Some Rises
line_turn (Refused refusal) = refusal_turn refusal
line_turn _ = None

-- how the life of a node turns by the line of an event
abbrev pub life_turn : ℕ → Event → Line → Option LifeTurn
life_turn node e l = cond (node_of e == node) (line_turn l) None

-- the turns of a node in their order, each with its row; the rows are numbered from `row` on
abbrev pub turns_from : ℕ → ℕ → List Event → List Line → List (ℕ × LifeTurn)
turns_from node row [] lines = []
turns_from node row (e ∷ events) [] = []
turns_from node row (e ∷ events) (l ∷ lines) =
    cons_option (option_map (λ turn. (row, turn)) (life_turn node e l)) (turns_from node (row + 1) events lines)

-- ---- what is drawn of it

abbrev pub stretch : Bool → ℕ → ℕ → Stretch
stretch down from to = record { down = down; from = from; to = to }

-- the stretches of a life that is down or up from some height on, turns so, and is drawn to `end`: a node that falls
-- is drawn down from the axis of that row on, until the axis of the row in which it rises; a cut of a node that is up
-- leaves a gap around its sign
abbrev pub stretches : Bool → ℕ → List (ℕ × LifeTurn) → ℕ → List Stretch
stretches down from [] end = stretch down from end ∷ []
stretches false from ((row, Falls) ∷ turns) end =
    stretch false from (row_axis row) ∷ stretches true (row_axis row) turns end
stretches false from ((row, Rises) ∷ turns) end =
    stretch false from (row_axis row - 14) ∷ stretches false (row_axis row + 14) turns end
stretches true from ((row, Falls) ∷ turns) end = stretches true from turns end
stretches true from ((row, Rises) ∷ turns) end =
    stretch true from (row_axis row) ∷ stretches false (row_axis row + 14) turns end

-- the lifeline of a node: it is up at first, and is drawn from below its name to below the last row
abbrev pub lifeline_of : ℕ → List Event → List Line → List Stretch
lifeline_of node events lines =
    stretches false lifeline_top (turns_from node 1 events lines) (lifeline_bottom (length events))
