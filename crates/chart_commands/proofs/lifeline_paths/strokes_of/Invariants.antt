-- the strokes so far and those of the life that is left are those of the whole lifeline
use Rattle.std.proofs.Common.{◌≡◌, ◌+◌, ◌++◌, drop, length}
use Rattle.chart_commands.specs.Places.{lifeline_bottom}
use Rattle.chart_commands.specs.Lifelines.{turns_from, stretches, lifeline_of}
use Rattle.chart_commands.specs.ChartTexts.{life_strokes}
use Rattle.chart_commands.proofs.lifeline_paths.strokes_of.Given as goal

abbrev pub invariant-loop-place : goal.invariant-loop-place
invariant-loop-place l =
    l.strokes.items
    ++ life_strokes l.node l.down
    (stretches l.life.down l.life.from (turns_from l.node (l.place + 1) (drop l.place l.events) (drop l.place l.lines)) (lifeline_bottom (length l.events)))
    ≡ life_strokes l.node l.down (lifeline_of l.node l.events l.lines)
