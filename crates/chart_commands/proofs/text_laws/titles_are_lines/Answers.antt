use Rattle.std.proofs.Common.{◌++◌, ◌∷◌, [], ◌∙◌, sym, ap, append_assoc, ℕ, List}
use Rattle.std.specs.Prelude.{codes}
use Rattle.std.specs.Fmt.{decimal}
use Rattle.bus_script.specs.LineTexts.{told_words}
use Rattle.text_lines.specs.Spaced.{spaced}
use Rattle.text_lines.proofs.CallerLemmas.{written-spaced}
use Rattle.chart_commands.proofs.text_laws.titles_are_lines.Goals as goal

pub returns : goal.returns
returns c = λ class row l.
    let number = decimal row in
    let words = spaced (told_words l) in
    record {
      text = number ++ words;
      line_is = written-spaced number (told_words l) ∙ sym (append_assoc number words (10 ∷ []));
      title_is = ap (λ (xs : List ℕ). codes "<g class=\"" ++ (class ++ (codes "\"><title>" ++ xs))) (sym (append_assoc number words (codes "</title>")));
    }
