use Rattle.std.proofs.Common.{true, false}
use Rattle.std.specs.Prelude.{codes}
use Rattle.chart_commands.specs.Lifelines.{lifeline_of}
use Rattle.chart_commands.specs.ChartTexts.{life_strokes, life_path}
use Rattle.chart_commands.proofs.Pieces.{three_added}
use Rattle.chart_commands.proofs.lifeline_paths.push_lifeline.Goals as goal

pub returns : goal.returns
returns c =
    let drawn = lifeline_of c.args.node c.args.events.now c.args.lines.now in
    three_added c.args.text.now.items (life_path (codes "up") (life_strokes c.args.node false drawn)) (life_path (codes "down") (life_strokes c.args.node true drawn)) (codes "\n") _ _ _
    c.in_ok-push_life.ensures c.in_ok-push_life-2.ensures c.in_ok-extend_from_slice.ensures.items
