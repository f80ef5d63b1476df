use Rattle.std.proofs.Common.{◌≡◌, ◌++◌, ◌∙◌, sym, subst}
use Rattle.std.specs.Prelude.{OnOk}
use Rattle.chart_commands.proofs.Pieces.{some_path}
use Rattle.chart_commands.proofs.lifeline_paths.push_path.Goals as goal

pub returns : goal.returns
returns c =
    subst (λ p. OnOk c.push_strokes.result (c.push_strokes.new.text.items ≡ c.args.text.now.items ++ p))
    (sym (some_path c.args.class.now c.args.strokes.now (sym c.is_empty.ensures ∙ c.if-is_empty.false)))
    c.push_strokes.ensures
