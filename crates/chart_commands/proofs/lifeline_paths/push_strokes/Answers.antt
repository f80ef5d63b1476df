use Rattle.std.specs.Prelude.{codes}
use Rattle.chart_commands.proofs.Pieces.{path_added}
use Rattle.chart_commands.proofs.lifeline_paths.push_strokes.Goals as goal

pub returns : goal.returns
returns c =
    path_added c.args.text.now.items (codes "<path class=\"") c.args.class.now (codes "\" d=\"") c.args.strokes.now (codes "\"/>") _ _ _
    c.in_ok-push_shown.ensures c.in_ok-extend_from_slice.ensures.items c.in_ok-extend_from_slice-2.ensures.items
